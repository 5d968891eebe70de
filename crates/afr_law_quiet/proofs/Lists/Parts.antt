-- The lines of one heal of a quiet round.
use Rattle.std.proofs.Common.{◌≡◌, ℕ, Bool, true, false, refl, sym, ◌∙◌, subst, ap, List, [], ◌∷◌, ◌++◌, Some, true≢false}
use Rattle.afr_base.specs.declared.ids.BrickId.{BrickId}
use Rattle.afr_base.specs.declared.ids.Gfid.{Gfid}
use Rattle.afr_base.specs.declared.ids.Kind.{Kind}
use Rattle.afr_lines.specs.Work.{Work, is_end}
use Rattle.afr_lines.specs.declared.line.Line.{Line}
use Rattle.afr_lines.specs.declared.line.Line.TheVariants.{Ask, Begin, End, Event, HealBegin, HealEnd}
use Rattle.afr_lines.specs.declared.request.Request.{Request}
use Rattle.afr_lines.specs.declared.request.Request.TheVariants.{Index}
use Rattle.afr_plan.specs.declared.plan.Plan.{Plan}
use Rattle.afr_model.specs.Healing.{heal_by, is_border}
use Rattle.afr_model.specs.Honest.{IsHonest}
use Rattle.afr_model.specs.Quiet.{tells_any_fault}
use Rattle.afr_model.specs.Rounds.{IsOfHeal, KeepsToRound, heal_due, listed_by, object_healed}
use Rattle.afr_law_quiet.proofs.Lists.Runs.{AreMine, works}
use Rattle.afr_law_quiet.proofs.Lists.Steps.{AsksBelow, Goes, IsFree}

-- the line is of the heal of this object and kind
abbrev pub IsOn : Gfid → Kind → Line → Type 0
IsOn g kind (Ask a b r told took) = object_healed r ≡ Some g
IsOn g kind (HealBegin a h k) = (h ≡ g) × (k ≡ kind)
IsOn g kind line = ⊥

-- a line of a heal of a quiet round
pub record Part (p : Plan) (g : Gfid) (kind : Kind) (line : Line) (older : List Line) : Type 0 where
  pub inside : is_border line ≡ false
  pub on : IsOn g kind line
  pub honest : IsHonest p line older
  pub unfailed : tells_any_fault line ≡ false
  pub free : IsFree line
  pub within : AsksBelow p.shape.n line

-- each of the lines is such
abbrev pub Parts : Plan → Gfid → Kind → List Line → List Line → Type 0
Parts p g kind [] base = Unit {0}
Parts p g kind (line ∷ ls) base = Part p g kind line (ls ++ base) × Parts p g kind ls base

-- the lines of the present heal of a round, after its earlier ones
pub record Heal (p : Plan) (g : Gfid) (kind : Kind) (ls base : List Line) : Type 0 where
  pub lines : List Line
  pub rest : List Line
  pub whole : ls ≡ lines ++ rest
  pub are : heal_by (works ls base) ≡ works lines (rest ++ base)
  pub parts : Parts p g kind lines (rest ++ base)

pub append_assoc : (xs ys zs : List Line) → (xs ++ ys) ++ zs ≡ xs ++ (ys ++ zs)
append_assoc [] ys zs = refl
append_assoc (x ∷ xs) ys zs = ap (λ (l : List Line). x ∷ l) (append_assoc xs ys zs)

module _ (p : Plan) (b : BrickId) (g : Gfid) (kind : Kind) (base : List Line) where
  due_same : (line : Line) (older : List Line) (w : Work) → is_border line ≡ false → heal_due p ((line, older) ∷ w) ≡ heal_due p w
  due_same (Ask a y Index told took) older w e = absurd (true≢false e)
  due_same (HealEnd a h k said) older w e = absurd (true≢false e)
  due_same (Ask a y r told took) older w e = refl
  due_same (HealBegin a h k) older w e = refl
  due_same (Begin a change) older w e = refl
  due_same (End a said) older w e = refl
  due_same (Event event) older w e = refl

  some_is : {A : Type 0} (x y : A) → Some x ≡ Some y → x ≡ y
  some_is x y e = cc e

  of_heal : (r : Request) (w : Work) → IsOfHeal (listed_by p w) r w → heal_due p w ≡ Some (g, kind) → object_healed r ≡ Some g
  of_heal r w k due =
      let same : (k.object, k.kind) ≡ (g, kind) = some_is (k.object, k.kind) (g, kind) (sym k.due ∙ due) in
      k.about ∙ ap (λ (x : Gfid × Kind). Some x.0) same

  on_heal : (line : Line) (w : Work) → is_border line ≡ false → (line_ends : is_end line ≡ false) → KeepsToRound p b line w → heal_due p w ≡ Some (g, kind) → IsOn g kind line
  on_heal (Ask a y Index told took) w e f k due = absurd (true≢false e)
  on_heal (Ask a y r told took) w e f k due = of_heal r w k due
  on_heal (HealBegin a h q) w e f k due = (let same : (h, q) ≡ (g, kind) = some_is (h, q) (g, kind) (sym k ∙ due) in (ap (λ (x : Gfid × Kind). x.0) same, ap (λ (x : Gfid × Kind). x.1) same))
  on_heal (HealEnd a h q said) w e f k due = absurd (true≢false e)
  on_heal (End a said) w e f k due = absurd (true≢false f)
  on_heal (Begin a change) w e f k due = absurd k
  on_heal (Event event) w e f k due = absurd k

  -- the heal that is due began after the last border
  pub heal_of : (a : ℕ) (ls : List Line) → AreMine a ls → Goes p b ls base → heal_due p (works ls base) ≡ Some (g, kind) → Heal p g kind ls base
  heal_of a [] mine goes due = record { lines = []; rest = []; whole = refl; are = refl; parts = tt }
  heal_of a (line ∷ ls) mine goes due = go (is_border line) refl (λ d. heal_of a ls mine.1 goes.1 d)
    where
      more : is_border line ≡ false → heal_due p (works ls base) ≡ Some (g, kind) → Heal p g kind ls base → Heal p g kind (line ∷ ls) base
      more e d h = (
          let same : ls ++ base ≡ h.lines ++ (h.rest ++ base) = ap (λ (l : List Line). l ++ base) h.whole ∙ append_assoc h.lines h.rest base in
          record {
            lines = line ∷ h.lines;
            rest = h.rest;
            whole = ap (λ (l : List Line). line ∷ l) h.whole;
            are = rw e ((λ i. (line, same i) ∷ h.are i));
            parts = (
              record {
                inside = e;
                on = on_heal line (works ls base) e mine.0.1 goes.0.keeps d;
                honest = subst (IsHonest p line) same goes.0.honest;
                unfailed = goes.0.unfailed;
                free = goes.0.free;
                within = goes.0.within;
              },
              h.parts,
            );
          }
          )

      go : (border : Bool) → is_border line ≡ border → (heal_due p (works ls base) ≡ Some (g, kind) → Heal p g kind ls base) → Heal p g kind (line ∷ ls) base
      go true e rest = record { lines = []; rest = line ∷ ls; whole = refl; are = rw e refl; parts = tt }
      go false e rest = (let d = sym (due_same line (ls ++ base) (works ls base) e) ∙ due in more e d (rest d))
