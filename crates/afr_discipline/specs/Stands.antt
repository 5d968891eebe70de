-- Which exact register a program's register stands for.
use Rattle.std.specs.Prelude.{◌≡◌, ℕ, suc, ◌<◌, false, List, [], ◌∷◌, length, slice_index_or, Option, None, Some}
use Rattle.afr_base.specs.Bricks.{below, member}
use Rattle.afr_base.specs.declared.ids.Kind.TheVariants.{Bytes}
use Rattle.afr_base.specs.declared.ids.Shape.{Shape}
use Rattle.afr_choice.specs.Looks.{no_looks}
pub use Rattle.afr_choice.specs.Looks.{views_of}
use Rattle.afr_model_moves.specs.Rules.{fresh}
use Rattle.afr_model_moves.specs.Register as exact
use Rattle.afr_model_moves.specs.Register.{Exact}
use Rattle.afr_discipline.specs.declared.register.Register.{Register}
use Rattle.afr_discipline.specs.declared.register.Step.{Step}
use Rattle.afr_discipline.specs.declared.register.Step.TheVariants as step
use Rattle.afr_discipline.specs.declared.register.HealPart.{HealPart}
use Rattle.afr_discipline.specs.declared.register.HealPart.TheVariants as heal_part

-- the steps by their names
abbrev pub step_of : Step → exact.Step
step_of step.Untouched = exact.Untouched
step_of step.Open = exact.Open
step_of step.Pres = exact.Pres
step_of step.Applies = exact.Applies
step_of step.Posts = exact.Posts
step_of step.HealLocks = exact.HealLocks
step_of step.WorkLocks = exact.WorkLocks
step_of step.Looks = exact.Looks
step_of step.Reads = exact.Reads
step_of step.HealPres = exact.HealPres
step_of step.Mends = exact.Mends
step_of step.Settles = exact.Settles
step_of step.Unlocks = exact.Unlocks
step_of step.HealUnlocks = exact.HealUnlocks

-- the parts of a heal
abbrev pub heal_part_of : HealPart → exact.HealPart
heal_part_of heal_part.Opening = exact.Opening
heal_part_of heal_part.Piece = exact.Piece
heal_part_of heal_part.Finish = exact.Finish

-- the number of an attempt or a part of a heal: suc of its position, or 0
abbrev pub number_of : Option ℕ → ℕ
number_of None = 0
number_of (Some q) = suc q

-- the position of the read at each brick
abbrev pub reads_of : List (Option ℕ) → ℕ → Option ℕ
reads_of reads x = slice_index_or reads x None

-- a field of the program for each field that it keeps; what may be the source is told of the volume's bricks alone
pub record Stands (p : Register) (r : Exact) : Type 0 where
  pub number : r.law.number ≡ number_of p.begun
  pub area : r.law.area ≡ p.area
  pub held : r.law.held ≡ member p.held
  pub second : r.law.second ≡ p.second
  pub second_held : r.law.second_held ≡ member p.second_held
  pub pre : r.law.pre ≡ member p.pre
  pub done : r.law.done ≡ member p.done
  pub post : r.law.post ≡ member p.post
  pub inside : r.law.heal ≡ p.inside
  pub object : r.law.object ≡ p.object.0
  pub kind : r.law.kind ≡ p.kind
  pub healing : r.law.healing ≡ member p.healing
  pub settled : r.law.settled ≡ member p.settled
  pub step : r.step ≡ step_of p.step
  pub asked : r.asked ≡ member p.asked
  pub unlocked : r.unlocked ≡ p.unlocked
  pub reached : r.reached ≡ member p.looked.reached
  pub views : r.views ≡ views_of p.looked
  pub first_reached : r.first_reached ≡ member p.seen.reached
  pub first_views : r.first_views ≡ views_of p.seen
  pub part : r.part ≡ heal_part_of p.part
  pub possible : (s : ℕ) → s < p.shape.n → r.possible s ≡ member p.possible s
  pub reads : r.reads ≡ reads_of p.reads
  pub upto : r.upto ≡ p.upto
  pub broken : r.broken ≡ p.broken

-- the lists of views and reads have a place for each of five bricks
pub record HasFive (p : Register) : Type 0 where
  pub looked : length p.looked.views ≡ 5
  pub seen : length p.seen.views ≡ 5
  pub reads : length p.reads ≡ 5

-- the exact register with the fields of the program, and those of the proof as they were before any line
abbrev pub seen_as : Register → Exact
seen_as p = record {
  law = record fresh {
    number = number_of p.begun;
    area = p.area;
    held = member p.held;
    second = p.second;
    second_held = member p.second_held;
    pre = member p.pre;
    done = member p.done;
    post = member p.post;
    heal = p.inside;
    object = p.object.0;
    kind = p.kind;
    healing = member p.healing;
    settled = member p.settled;
  };
  step = step_of p.step;
  asked = member p.asked;
  unlocked = p.unlocked;
  reached = member p.looked.reached;
  views = views_of p.looked;
  first_reached = member p.seen.reached;
  first_views = views_of p.seen;
  part = heal_part_of p.part;
  possible = member p.possible;
  reads = reads_of p.reads;
  upto = p.upto;
  broken = p.broken;
}

-- the program's register before any line
abbrev pub no_lines : Shape → Register
no_lines shape = record {
  shape = shape;
  area = None;
  held = [];
  second = None;
  second_held = [];
  healing = [];
  looked = no_looks;
  pre = [];
  done = [];
  post = [];
  seen = no_looks;
  reads = None ∷ None ∷ None ∷ None ∷ None ∷ [];
  upto = 0;
  settled = [];
  broken = false;
  step = step.Untouched;
  asked = [];
  unlocked = false;
  begun = None;
  inside = false;
  object = record { 0 = 0 };
  kind = Bytes;
  part = heal_part.Opening;
  possible = below shape.n;
}
