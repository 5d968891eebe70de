-- A directory that is made has the number of its own line, since only a mkdir makes one.
use Rattle.std.proofs.Common.{◌≡◌, ℕ, ◌+◌, ◌==◌, Bool, true, false, refl, sym, subst, ap, arith, List, [], ◌∷◌, length, Option, Some, None}
use Rattle.std.specs.Prelude.{if◌then◌else◌}
use Rattle.std.specs.Option.{option_map}
use Rattle.std.proofs.lemmas.Bool.{eqb-true}
use Rattle.afr_base.specs.declared.ids.Gfid.{Gfid}
use Rattle.afr_base.specs.declared.ids.NameId.{NameId}
use Rattle.afr_base.specs.declared.ids.What.TheVariants.{Dir, File}
use Rattle.afr_base.specs.declared.ids.What.{What}
use Rattle.afr_law_names.specs.Descent.Descent.{IsOfPlan}
use Rattle.afr_lines.specs.Log.{from_oldest}
use Rattle.afr_lines.specs.Work.{work}
use Rattle.afr_lines.specs.declared.line.Line.{Line}
use Rattle.afr_model.specs.Commands.{change_named, is_on_name, last_of, steps_of}
use Rattle.afr_model.specs.Following.{IsFollowing, KeepsToCommand, KeepsToTask, ToCommand, ToCrawl, ToItem, ToRound}
use Rattle.afr_model.specs.Keeping.{KeepsTo}
use Rattle.afr_model.specs.Parts.{Makes, Part, Removes, Walks, part_at}
use Rattle.afr_model.specs.Renamed.{KeepsToPart}
use Rattle.afr_model.specs.Showing.{At, path_by}
use Rattle.afr_model.specs.Standing.{path_upto}
use Rattle.afr_model_moves.specs.Lines.{begin_by, make_in}
use Rattle.afr_object.specs.declared.change.Change.TheVariants.{Make, Remove}
use Rattle.afr_object.specs.declared.change.Change.{Change}
use Rattle.afr_object.specs.declared.entry.Entry.{Entry as NameEntry}
use Rattle.afr_plan.specs.declared.command.Command.TheVariants as command
use Rattle.afr_plan.specs.declared.command.Command.{Command}
use Rattle.afr_plan.specs.declared.plan.Plan.{Plan}

-- ---- a line of the log
pub plan_before : (p : Plan) (line : Line) (older : List Line) → IsOfPlan p (line ∷ older) → IsOfPlan p older
plan_before p line older f = record { few = f.few; short = (let s = f.short in omega (arith, s)); crawl = f.crawl; follows = f.follows.1; honest = f.honest.1; lawful = f.lawful.1 }

-- the line at a position, and the lines before it
pub record Found (p : Plan) (line : Line) (q : ℕ) : Type 0 where
  pub older : List Line
  pub size : length older ≡ q
  pub plan : IsOfPlan p older
  pub crawl : Bool
  pub follows : IsFollowing crawl p line older

pub found : (p : Plan) (log : List Line) → IsOfPlan p log → (q : ℕ) (line : Line) → from_oldest q log ≡ Some line → Found p line q
found p [] f q line e = absurd (cc e)
found p (new ∷ older) f q line e = go (q == length older) refl e (λ k. found p older (plan_before p new older f) q line k)
  where
    go : (here : Bool) → (q == length older) ≡ here → (if here then Some new else from_oldest q older) ≡ Some line → (from_oldest q older ≡ Some line → Found p line q) → Found p line q
    go true h k rest = (
        let same : new ≡ line = cc k in
        let at : q ≡ length older = eqb-true q (length older) h in
        record { older = older; size = sym at; plan = plan_before p new older f; crawl = f.crawl; follows = subst (λ (l : Line). IsFollowing f.crawl p l older) same f.follows.0 }
        )
    go false h k rest = rest k

-- ---- what it makes
-- the change that a command's words name
record NamedMake (c : Command) (h : Gfid) (at d g : ℕ) : Type 0 where
  on_name : is_on_name c ≡ true
  number : g ≡ at + 2
  directory : d ≡ h.0

-- the numbers of what a Make makes, and of its directory
abbrev number_of : Option Change → ℕ
number_of (Some (Make dir name g what)) = g.0
number_of other = 0

abbrev directory_of : Option Change → ℕ
directory_of (Some (Make dir name g what)) = dir.0
directory_of other = 0

made_named : (h : Gfid) (at : ℕ) (kind : What) (o : Option NameId) (d m g : ℕ) (what : What) → option_map (λ name. Make h name (record { 0 = at + 2 }) kind) o ≡ Some (make_in d m g what) → (g ≡ at + 2) × (d ≡ h.0)
made_named h at kind None d m g what e = absurd (cc e)
made_named h at kind (Some name) d m g what e = (sym (ap number_of e), sym (ap directory_of e))

removed_named : (h : Gfid) (kind : What) (o : Option NameId) (d m g : ℕ) (what : What) → option_map (λ name. Remove h name kind) o ≡ Some (make_in d m g what) → ⊥
removed_named h kind None d m g what e = cc e
removed_named h kind (Some name) d m g what e = cc e

named_make : (c : Command) (h : Gfid) (at d m g : ℕ) (what : What) → change_named h at c ≡ Some (make_in d m g what) → NamedMake c h at d g
named_make (command.Create path) h at d m g what e = (let w = made_named h at File (last_of path) d m g what e in record { on_name = refl; number = w.0; directory = w.1 })
named_make (command.Mkdir path) h at d m g what e = (let w = made_named h at Dir (last_of path) d m g what e in record { on_name = refl; number = w.0; directory = w.1 })
named_make (command.Unlink path) h at d m g what e = absurd (removed_named h File (last_of path) d m g what e)
named_make (command.Rmdir path) h at d m g what e = absurd (removed_named h Dir (last_of path) d m g what e)
named_make c h at d m g what e = absurd (cc e)

-- a rename gives a name to a file
linked_file : (h file : Gfid) (o : Option NameId) (d m g : ℕ) → option_map (λ name. Make h name file File) o ≡ Some (make_in d m g Dir) → ⊥
linked_file h file None d m g e = cc e
linked_file h file (Some name) d m g e = cc e

-- where a line stands that makes a directory: its number is its position's, and it is made in the one to which the path of a work has led
pub record MakeLine (p : Plan) (older : List Line) (x d g : ℕ) : Type 0 where
  pub number : g ≡ length older + 2
  pub names : ℕ
  pub object : NameEntry
  pub led : path_upto names p (work x older) ≡ At names object
  pub directory : d ≡ object.gfid.0

module _ (p : Plan) (older : List Line) (x d m g : ℕ) where
  abbrev line : Line
  line = begin_by x (make_in d m g Dir)

  -- no line of a rename does
  no_rename : (from to : List NameId) (part : Part) → KeepsToPart part p from to line (length older) (work x older) → ⊥
  no_rename from to Walks k = cc k.1.named
  no_rename from to Makes k = linked_file k.1.dir.gfid k.1.file (last_of to) d m g k.1.named
  no_rename from to Removes k = removed_named k.1.object.gfid File (last_of from) d m g Dir k.1.named

  by_path : (c : Command) → KeepsTo p c line (length older) (work x older) → MakeLine p older x d g
  by_path c k =
      let w = named_make c k.1.object.gfid (length older) d m g Dir k.1.named in
      record {
        number = w.number;
        names = steps_of c;
        object = k.1.object;
        led = placed (is_on_name c) w.on_name k.1.led;
        directory = w.directory;
      }
    where
      placed : (on : Bool) → on ≡ true → (if on then path_upto (steps_of c) p (work x older) else path_by p (work x older)) ≡ At (steps_of c) k.1.object → path_upto (steps_of c) p (work x older) ≡ At (steps_of c) k.1.object
      placed true f h = h
      placed false f h = absurd (cc f)

  by_command : (c : Command) → KeepsToCommand p c line (length older) (work x older) → MakeLine p older x d g
  by_command (command.Rename from to) k = absurd (no_rename from to (part_at from line (work x older)) k)
  by_command c k = by_path c k

  pub make_line : (crawl : Bool) → IsFollowing crawl p line older → MakeLine p older x d g
  make_line crawl f = go f.1.0.keeps
    where
      go : KeepsToTask crawl p x line older → MakeLine p older x d g
      go (ToRound plain high b e k) = absurd k
      go (ToCrawl crawls who b e k) = absurd k
      go (ToItem crawls high item e k) = absurd k.0
      go (ToCommand c e k) = by_command c k
