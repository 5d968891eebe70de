-- A request outside a heal is noted at once as if the steps and the locks were noted one after the other.
use Rattle.std.proofs.Common.{◌≡◌, ℕ, ◌&&◌, ◌||◌, not, Bool, true, false, if◌then◌else◌, [], refl, sym, ap, subst, ◌∙◌, Some}
use Rattle.std.proofs.Math.Bool.{or-false}
use Rattle.afr_base.specs.Bricks.{added, added_if}
use Rattle.afr_base.specs.declared.ids.Kind.{Kind}
use Rattle.afr_choice.specs.Looks.{no_looks}
use Rattle.afr_lines.specs.declared.lock.Domain.TheVariants.{Work}
use Rattle.afr_lines.specs.declared.answer.Told.{Told}
use Rattle.afr_lines.specs.declared.request.Area.{Area}
use Rattle.afr_lines.specs.declared.request.Request.{Request}
use Rattle.afr_lines.specs.declared.request.Request.TheVariants.{Lock}
use Rattle.afr_model_moves.specs.Keeps.{keeps_in}
use Rattle.afr_model_moves.specs.Note.{is_granted, stops_at}
use Rattle.afr_model_moves.specs.Past.{is_gone}
use Rattle.afr_model_moves.specs.Register.{Exact}
use Rattle.afr_model_moves.specs.Rules.{is_area}
use Rattle.afr_discipline.specs.declared.register.Register.{Register}
use Rattle.afr_discipline.specs.declared.register.Step.{Step}
use Rattle.afr_discipline.specs.declared.register.Step.TheVariants.{Open}
use Rattle.afr_discipline.specs.Notes.{anew, broken_by, dropped, is_working, joined, noted_ask, noted_inside, noted_law, noted_outside, noted_steps, second_in, stayed, still_possible, stopped, with_held}
use Rattle.afr_discipline.specs.Stands.{seen_as, step_of}
use Rattle.afr_discipline.proofs.InPlace.{noted_in_turn, turn_shape}

-- ---- a step that ends no heal
abbrev pub IsCalm : Step → Type 0
IsCalm step = (n : ℕ) (keeps : ℕ → Kind → Bool) (r : Exact) → stops_at n keeps r (step_of step) ≡ false

unstopped : (d : Register) → IsCalm d.step → stopped d ≡ d
unstopped d calm =
    ap (λ (ends : Bool). record d { broken = d.broken || ends }) (calm d.shape.n (keeps_in d.shape) (seen_as d))
    ∙ ap (λ (broken : Bool). record d { broken = broken }) (or-false d.broken)

-- ---- Work locks
-- what the locks keep of one, by whether it was granted and whether the actor holds one
abbrev locked_where : (granted works : Bool) → Register → Area → ℕ → Register
locked_where granted works q area b =
    (let asked = (if works then record q { second = second_in q area } else anew q area)
    in if granted then (if works && not (is_area q.area area) then record q { second = Some area; second_held = added b q.second_held } else with_held asked b) else asked)

idle_locks : (granted : Bool) (q : Register) (area : Area) (b : ℕ) → record (anew q area) { held = added_if granted b [] } ≡ locked_where granted false q area b
idle_locks true q area b = refl
idle_locks false q area b = refl

-- the first
pub locks_first : (q : Register) (area : Area) (b : ℕ) (told : Told) → is_working q ≡ false → record (anew q area) { held = added_if (is_granted told) b [] } ≡ noted_law q b (Lock Work area) told
locks_first q area b told idle = idle_locks (is_granted told) q area b ∙ ap (λ (works : Bool). locked_where (is_granted told) works q area b) (sym idle)

busy_locks : (granted own : Bool) (q : Register) (area : Area) (b : ℕ)
    → (if own then record q { held = added_if granted b q.held } else record q { second = Some area; second_held = added_if granted b q.second_held })
    ≡ (let asked = record q { second = if own then q.second else Some area } in if granted then (if not own then record q { second = Some area; second_held = added b q.second_held } else with_held asked b) else asked)
busy_locks true true q area b = refl
busy_locks true false q area b = refl
busy_locks false true q area b = refl
busy_locks false false q area b = refl

-- a later one: its steps, and its locks
pub works_more : (p q : Register) (area : Area) (b : ℕ) (told : Told) → q ≡ stayed p → is_working p ≡ true → q ≡ noted_outside p b (Lock Work area) told
works_more p q area b told e busy = e ∙ ap (λ (works : Bool). if works then stayed p else record p { step = Open; asked = []; unlocked = false; looked = no_looks }) (sym busy)

abbrev locks_by : Bool → Register → Area → ℕ → Register
locks_by granted q area b = if is_area q.area area then record q { held = added_if granted b q.held } else record q { second = Some area; second_held = added_if granted b q.second_held }

pub locks_more : (p q l : Register) (area : Area) (b : ℕ) (told : Told) (granted : Bool) → q ≡ stayed p → is_working p ≡ true → granted ≡ is_granted told → l ≡ locks_by granted q area b → l ≡ noted_law q b (Lock Work area) told
locks_more p q l area b told granted e busy grants is =
    is ∙ ap (λ (granted : Bool). locks_by granted q area b) grants ∙ busy_locks (is_granted told) (is_area q.area area) q area b
    ∙ ap (λ (works : Bool). locked_where (is_granted told) works q area b) (sym (ap is_working e ∙ busy))

-- ---- a request
module _ (p q l d : Register) (t b : ℕ) (request : Request) (told : Told) (gone : Bool) (outside : p.inside ≡ false) (steps : q ≡ noted_outside p b request told) (law : l ≡ noted_law q b request told) (is : gone ≡ is_gone told) (drop : d ≡ dropped gone b l) where
  outside_is : noted_outside p b request told ≡ noted_steps p t b request told
  outside_is =
      ap (λ (inside : Bool). if inside then record (noted_inside p t b request told) { possible = still_possible p b request; broken = p.broken || broken_by p request told } else noted_outside p b request told) (sym outside)

  both : d ≡ joined (noted_steps p t b request told) (dropped (is_gone told) b (noted_law p b request told))
  both = noted_in_turn p q l d t b request told gone (steps ∙ outside_is) law is drop

  pub alone_shape : d.shape ≡ p.shape
  alone_shape = turn_shape p q l d t b request told gone (steps ∙ outside_is) law is drop

  step_is : d.step ≡ (noted_outside p b request told).step
  step_is = ap (λ (x : Register). x.step) both ∙ ap (λ (x : Register). x.step) (sym outside_is)

  -- where its step ends no heal, that is all
  pub noted_calm : IsCalm (noted_outside p b request told).step → d ≡ noted_ask p t b request told
  noted_calm calm = sym (unstopped d (subst IsCalm (sym step_is) calm)) ∙ ap stopped both

  -- and else the heal is ended then
  pub noted_ended : (x : Register) → x ≡ stopped d → x ≡ noted_ask p t b request told
  noted_ended x e = e ∙ ap stopped both
