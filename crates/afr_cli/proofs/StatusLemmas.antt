-- What a fault, a refusal and the want of a plan give.
use Rattle.std.proofs.Common.{◌≡◌, ◌≢◌, ◌∙◌, sym, subst, ◌≤◌, ◌⊎◌, ℕ, List, [], Option, Some, Global, length, refl, inl, inr}
use Rattle.std.specs.Prelude.{String}
use Rattle.std.specs.Io.KnownBytes.{Appends}
use Rattle.afr_text.specs.Parts.{AppendsFront}
use Rattle.afr_plan.specs.declared.plan.Plan.{Plan}
use Rattle.afr_plan.specs.declared.plan.PlanFault.{PlanFault}
use Rattle.afr_plan.specs.Judging.{first_fault}
use Rattle.afr_plan.specs.Spells.{Spells}
use Rattle.afr_model.specs.Chosen.{Picks}
use Rattle.afr_volume.proofs.ChosenLemmas.{no_volume_chosen}
use Rattle.afr_volume.specs.State.{IsChosen, State, no_volume}
use Rattle.afr_model.specs.Ordered.{IsOrdered, Writes}
use Rattle.afr_model.specs.Complete.{IsComplete}
use Rattle.afr_words.specs.Forms.{AreForm, AskCheck, AskFor}
use Rattle.afr_words.specs.declared.form.Form.{Form}
use Rattle.afr_words.specs.declared.form.Form.TheVariants as kind
use Rattle.afr_gen.specs.Generated.{generated}
use Rattle.afr_cli.specs.Forms.{text_of}
use Rattle.afr_cli.specs.Reading.{WasRead}
use Rattle.afr_cli.specs.Statuses.{IsOver, AreReading, IsPlanOf, IsPlanOfWords, IsText, IsRefused, IsRefusal, IsSpelled, Reports, StopsWriting, refusal_line, usage_line}

-- before a plan was handed in nothing was written, in any order
pub nothing_ordered : (v : State) → v ≡ no_volume → IsOrdered v.plan v.log
nothing_ordered v e = rw e (record { turns = []; later = []; rounds = 0; stated = refl; written = Writes.Nothing })

-- nothing was read, and no heal had a source
pub nothing_chosen : (v : State) → v ≡ no_volume → (reads heals : Picks) → IsChosen reads heals v
nothing_chosen v e reads heals = subst (IsChosen reads heals) (sym e) (no_volume_chosen reads heals)

-- a text that was written with its status s has no other but 5
pub other_status : (r s n : ℕ) (A : Type 0) → (r ≢ 5 → (r ≡ s) × A) → (n ≡ 5 → ⊥) → (n ≡ s → ⊥) → r ≡ n → ⊥
other_status r s n A whole not_5 not_s e = not_s (sym e ∙ (whole (λ five. not_5 (sym e ∙ five))).0)

module _ {S : Type 0} (words : List (String Global)) (left : S → Option (List ℕ)) (source source' : S) (taken taken' : Option (List ℕ)) (now : State) where
  pub stops_at_usage : (AreForm words → ⊥) → (AskCheck words → ⊥) → source' ≡ source → now ≡ no_volume → AppendsFront taken taken' usage_line → StopsWriting words left source source' taken taken' now
  stops_at_usage other unchecked same none front = record { text = usage_line; known = IsText.Usage other unchecked same none; front = front }

  pub stops_at_refusal : (fault : PlanFault) → AreReading words → IsRefused (left source) (left source') fault → now ≡ no_volume
      → AppendsFront taken taken' (refusal_line fault) → StopsWriting words left source source' taken taken' now
  stops_at_refusal fault run cause none front = record { text = refusal_line fault; known = IsText.Refusal run fault cause none; front = front }

  pub stops_at_text : (form : Form) → AskFor words form → IsPlanOf form (left source) (left source') now.plan → IsComplete now.plan now.log → IsOver now.plan now.log
      → AppendsFront taken taken' (text_of form now.plan now.log) → StopsWriting words left source source' taken taken' now
  stops_at_text form asked planned complete over front = record { text = text_of form now.plan now.log; known = IsText.Report form asked planned complete over; front = front }

  pub stops_at_summary : (form : Form) (n : ℕ) → form ≡ kind.Gen n → AskFor words form → now.plan ≡ generated n → IsComplete now.plan now.log → IsOver now.plan now.log
      → AppendsFront taken taken' (text_of (kind.Gen n) now.plan now.log) → StopsWriting words left source source' taken taken' now
  stops_at_summary form n is asked made complete over front = stops_at_text form asked (rw is made) complete over (rw is front)

-- a form's text was written of its plan
pub reports : (words : List (String Global)) (form : Form) (left left' taken taken' : Option (List ℕ)) (now : State)
    → AskFor words form → IsPlanOf form left left' now.plan → Appends taken taken' (text_of form now.plan now.log) → Reports words left left' taken taken' now
reports words form left left' taken taken' now asked planned text = record { form = form; asked = asked; planned = planned; text = text }

-- where a plan was run, it is the plan of the form that the words ask for
pub planned_or_none : (words : List (String Global)) (form : Form) (left left' : Option (List ℕ)) (now : State)
    → AskFor words form → (now ≡ no_volume) ⊎ IsPlanOf form left left' now.plan → (now ≡ no_volume) ⊎ IsPlanOfWords words left left' now.plan
planned_or_none words form left left' now asked (inl none) = inl none
planned_or_none words form left left' now asked (inr planned) = inr (record { form = form; asked = asked; planned = planned })

module _ (left left' : Option (List ℕ)) (fault : PlanFault) where
  pub is_faulty : (bytes seen : List ℕ) → seen ≡ bytes → WasRead 16777216 left left' bytes → (first_fault seen ≡ Some fault) × ((plan : Plan) → Spells seen plan → ⊥) → IsRefused left left' fault
  is_faulty bytes seen e read why = inl (record { bytes = bytes; read = read; first = rw (← e) why.0; none = rw (← e) why.1 })

  pub refused : (taken taken' : Option (List ℕ)) → IsRefused left left' fault → Appends taken taken' (refusal_line fault) → IsRefusal left left' taken taken'
  refused taken taken' cause line = record { fault = fault; cause = cause; line = line }

module _ (left left' : Option (List ℕ)) (plan : Plan) (spelled : IsSpelled left left' plan) where
  -- the plan that was spelled is the one that was run
  pub run_is_spelled : (run : Plan) → run ≡ plan → IsSpelled left left' run
  run_is_spelled run same = rw same spelled

  pub spelled_or_none : (now : State) → (now ≡ no_volume) ⊎ (now.plan ≡ plan) → (now ≡ no_volume) ⊎ IsSpelled left left' now.plan
  spelled_or_none now (inl none) = inl none
  spelled_or_none now (inr same) = inr (run_is_spelled now.plan same)
