-- What reading answers: the image of the bytes, or their first fault.
use Rattle.std.proofs.Common.{◌≡◌, ◌⊎◌, ℕ, ◌+◌, ◌^◌, ◌<◌, Bool, true, false, Option, Some, None, Result, Ok, Err, List, inl, inr, length, refl, sym, ◌∙◌, ap, subst, arith, if◌then◌else◌}
use Rattle.std.specs.Prelude.{IfOk}
use Rattle.std.proofs.lemmas.Bool.{cond-false, cond-true}
use Rattle.afr_plan.specs.declared.plan.Plan.{Plan}
use Rattle.afr_plan.specs.Spells.{Spells}
use Rattle.afr_plan_print.specs.PrintedPlan.{plan_text}
use Rattle.afr_image.specs.declared.image.Image.{Image}
use Rattle.afr_image.specs.declared.image.ImageFault.{ImageFault}
use Rattle.afr_image.specs.declared.image.ImageStop.{ImageStop}
use Rattle.afr_image.specs.declared.image.ImageStop.TheVariants.{Refused, NoMemory}
use Rattle.afr_image.specs.declared.step.Step.{Step}
use Rattle.afr_image.specs.Answers.{Answers, IsRead}
use Rattle.afr_image.specs.Frame.{bytes_with, count_at, frame_fault, refusal, step_count, step_fault, steps_at, steps_of_bytes, text_in}
use Rattle.afr_image.specs.Frames.{IsFramed}
use Rattle.afr_image.specs.Images.{IsImageOf, is_over}
use Rattle.afr_image.specs.Refusals.{IsFault, IsNoPlanText, IsPlanFault, IsPlanText, IsRefused, steps_fault}
use Rattle.afr_image.specs.Steps.{are_steps, first_bad, steps_in}
use Rattle.afr_image.proofs.FrameLemmas.{AreBytes, AreWithin, HaveParts, framed, image_of_parts, is_framed, parts_of_image, parts_within}
use Rattle.afr_image.proofs.StepLemmas.{good_steps, none_bad}

-- a text spells one plan
abbrev pub OnePlan : Type 0
OnePlan = (bytes : List ℕ) (plan other : Plan) → Spells bytes plan → Spells bytes other → plan ≡ other

steps_whole : (over : Bool) (fault : ImageFault) (first : ℕ) (bad : Option ℕ) → over ≡ false → bad ≡ None → (if over then Some fault else step_fault first bad) ≡ None
steps_whole false fault first None e n = refl
steps_whole false fault first (Some k) e n = absurd (cc n)
steps_whole true fault first bad e n = absurd (cc e)

whole_steps : (over : Bool) (fault : ImageFault) (first : ℕ) (bad : Option ℕ) → (if over then Some fault else step_fault first bad) ≡ None → (over ≡ false) × (bad ≡ None)
whole_steps false fault first None h = (refl, refl)
whole_steps false fault first (Some k) h = absurd (cc h)
whole_steps true fault first bad h = absurd (cc h)

-- the bytes of an image have no fault
pub read_again : (most : Option ℕ) (bytes : List ℕ) (i : Image) → IsImageOf most bytes i → IsRead most bytes i
read_again most bytes i h =
    let parts : HaveParts bytes (plan_text i.plan) i.steps = parts_of_image bytes (plan_text i.plan) i.steps h.image.numbers.text h.image.numbers.steps h.spelled in
    let few : is_over most i.plan.turns (step_count bytes) ≡ false = ap (is_over most i.plan.turns) parts.count_is ∙ h.image.few in
    let good : first_bad (steps_of_bytes bytes) ≡ None = ap first_bad parts.steps_are ∙ none_bad i.steps h.image.steps in
    record {
      frame = is_framed bytes parts.begins parts.ends;
      text = record { spelled = subst (λ (t : List ℕ). Spells t i.plan) (sym parts.text_is) h.image.plan; printed = sym parts.text_is };
      whole = steps_whole (is_over most i.plan.turns (step_count bytes)) (refusal (count_at bytes) 16) (steps_at bytes) (first_bad (steps_of_bytes bytes)) few good;
      steps = sym parts.steps_are;
    }

short_numbers : (bytes text : List ℕ) (steps : List Step) → length bytes < 2 ^ 32 → AreWithin bytes → text ≡ text_in bytes → steps ≡ steps_of_bytes bytes → (length text < 2 ^ 32) × (length steps < 2 ^ 32)
short_numbers bytes text steps short within t s = (omega (arith, ap length t, within.text, within.long, short), omega (arith, ap length s, within.many, within.long, short))

-- bytes that have no fault are those of an image
pub image_read : (most : Option ℕ) (bytes : List ℕ) (i : Image) → AreBytes bytes → length bytes < 2 ^ 32 → IsRead most bytes i → IsImageOf most bytes i
image_read most bytes i small short h =
    let frame = framed bytes h.frame in
    let within = parts_within bytes frame.1 in
    let whole = whole_steps (is_over most i.plan.turns (step_count bytes)) (refusal (count_at bytes) 16) (steps_at bytes) (first_bad (steps_of_bytes bytes)) h.whole in
    let numbers = short_numbers bytes (plan_text i.plan) i.steps short within h.text.printed h.steps in
    let many : length i.steps ≡ length (steps_of_bytes bytes) = ap length h.steps in
    let few : is_over most i.plan.turns (length i.steps) ≡ false = ap (is_over most i.plan.turns) (many ∙ within.many) ∙ whole.0 in
    record {
      image = record {
        plan = subst (λ (t : List ℕ). Spells t i.plan) (sym h.text.printed) h.text.spelled;
        numbers = record { text = numbers.0; steps = numbers.1 };
        few = few;
        steps = subst (λ (l : List Step). are_steps l ≡ true) (sym h.steps) (good_steps (steps_of_bytes bytes) whole.1);
      };
      spelled = image_of_parts bytes small frame.0 frame.1 ∙ ap (λ (t : List ℕ). bytes_with t (steps_of_bytes bytes)) (sym h.text.printed) ∙ ap (bytes_with (plan_text i.plan)) (sym h.steps);
    }

-- ---- one answer
abbrev pub image_with : Plan → List Step → Image
image_with p steps = record { plan = p; steps = steps }

same_read : OnePlan → (most : Option ℕ) (bytes : List ℕ) (i j : Image) → IsRead most bytes i → IsRead most bytes j → i ≡ j
same_read one most bytes i j a b =
    let plans : i.plan ≡ j.plan = one (text_in bytes) i.plan j.plan a.text.spelled b.text.spelled in
    let steps : i.steps ≡ j.steps = a.steps ∙ sym b.steps in
    ap (λ (p : Plan). image_with p i.steps) plans ∙ ap (image_with j.plan) steps

no_plan_fault : OnePlan → (most : Option ℕ) (bytes : List ℕ) (i : Image) (fault : ImageFault) → IsRead most bytes i → IsPlanFault most bytes fault → ⊥
no_plan_fault one most bytes i fault a (inl (none, at)) = none i.plan a.text
no_plan_fault one most bytes i fault a (inr (plan, text, some)) =
    let plans : plan ≡ i.plan = one (text_in bytes) plan i.plan text.spelled a.text.spelled in
    let e : steps_fault most plan bytes ≡ None = ap (λ (p : Plan). steps_fault most p bytes) plans ∙ a.whole in
    cc (sym e ∙ some)

no_fault_of : OnePlan → (most : Option ℕ) (bytes : List ℕ) (i : Image) (fault : ImageFault) (frame : Option ImageFault) → frame ≡ None → IsRead most bytes i → IsFault most bytes frame fault → ⊥
no_fault_of one most bytes i fault None e a f = no_plan_fault one most bytes i fault a f
no_fault_of one most bytes i fault (Some x) e a f = cc e

never_read : OnePlan → (most : Option ℕ) (bytes : List ℕ) (i : Image) (fault : ImageFault) → IsRead most bytes i → IsRefused most bytes fault → ⊥
never_read one most bytes i fault a f = no_fault_of one most bytes i fault (frame_fault bytes) a.frame a f.first

plan_fault_once : OnePlan → (most : Option ℕ) (bytes : List ℕ) (f g : ImageFault) → IsPlanFault most bytes f → IsPlanFault most bytes g → f ≡ g
plan_fault_once one most bytes f g (inl (none, at)) (inl (nor, there)) = at ∙ sym there
plan_fault_once one most bytes f g (inl (none, at)) (inr (plan, text, some)) = absurd (none plan text)
plan_fault_once one most bytes f g (inr (plan, text, some)) (inl (none, at)) = absurd (none plan text)
plan_fault_once one most bytes f g (inr (plan, text, some)) (inr (other, too, more)) =
    let plans : plan ≡ other = one (text_in bytes) plan other text.spelled too.spelled in
    let e : steps_fault most plan bytes ≡ steps_fault most other bytes = ap (λ (p : Plan). steps_fault most p bytes) plans in
    let h : Some f ≡ Some g = sym some ∙ e ∙ more in
    cc h

fault_once : OnePlan → (most : Option ℕ) (bytes : List ℕ) (f g : ImageFault) (frame : Option ImageFault) → IsFault most bytes frame f → IsFault most bytes frame g → f ≡ g
fault_once one most bytes f g (Some x) a b = a ∙ sym b
fault_once one most bytes f g None a b = plan_fault_once one most bytes f g a b

-- ---- the parts that the code reads
pub refused_frame : (most : Option ℕ) (bytes : List ℕ) (fault : ImageFault) → frame_fault bytes ≡ Some fault → IsRefused most bytes fault
refused_frame most bytes fault e = record { first = subst (λ (o : Option ImageFault). IsFault most bytes o fault) (sym e) refl }

plan_refused : (most : Option ℕ) (bytes : List ℕ) (fault : ImageFault) → frame_fault bytes ≡ None → IsPlanFault most bytes fault → IsRefused most bytes fault
plan_refused most bytes fault e h = record { first = subst (λ (o : Option ImageFault). IsFault most bytes o fault) (sym e) h }

pub refused_plan : (most : Option ℕ) (bytes text : List ℕ) (count : ℕ) (steps : List ℕ) (fault : ImageFault) → IsFramed bytes text count steps → IsNoPlanText text → fault ≡ refusal 12 13 → IsRefused most bytes fault
refused_plan most bytes text count steps fault f none at = plan_refused most bytes fault f.frame (inl (subst IsNoPlanText f.text_is none, at))

refused_steps : (most : Option ℕ) (bytes text : List ℕ) (count : ℕ) (steps : List ℕ) (plan : Plan) (fault : ImageFault) → IsFramed bytes text count steps → IsPlanText text plan → steps_fault most plan bytes ≡ Some fault → IsRefused most bytes fault
refused_steps most bytes text count steps plan fault f h e = plan_refused most bytes fault f.frame (inr (plan, subst (λ (t : List ℕ). IsPlanText t plan) f.text_is h, e))

-- too many steps
pub refused_over : (most : Option ℕ) (bytes text : List ℕ) (count : ℕ) (steps : List ℕ) (plan : Plan) (at : ℕ) → IsFramed bytes text count steps → IsPlanText text plan → at ≡ 12 + length text → is_over most plan.turns count ≡ true → IsRefused most bytes (refusal at 16)
refused_over most bytes text count steps plan at f h e over =
    let too : is_over most plan.turns (step_count bytes) ≡ true = ap (is_over most plan.turns) (sym f.count_is) ∙ over in
    let place : at ≡ count_at bytes = omega (arith, e, f.first) in
    let fault : steps_fault most plan bytes ≡ Some (refusal (count_at bytes) 16) = cond-true (is_over most plan.turns (step_count bytes)) (Some (refusal (count_at bytes) 16)) (step_fault (steps_at bytes) (first_bad (steps_of_bytes bytes))) too in
    refused_steps most bytes text count steps plan (refusal at 16) f h (fault ∙ ap (λ (n : ℕ). Some (refusal n 16)) (sym place))

-- the fault of the steps, where they aren't too many
steps_fault_is : (most : Option ℕ) (bytes text : List ℕ) (count : ℕ) (steps : List ℕ) (plan : Plan) (first : ℕ) → IsFramed bytes text count steps → first ≡ 16 + length text → is_over most plan.turns count ≡ false → steps_fault most plan bytes ≡ step_fault first (first_bad (steps_in steps))
steps_fault_is most bytes text count steps plan first f e over =
    let few : is_over most plan.turns (step_count bytes) ≡ false = ap (is_over most plan.turns) (sym f.count_is) ∙ over in
    let place : steps_at bytes ≡ first = sym (e ∙ f.first) in
    cond-false (is_over most plan.turns (step_count bytes)) (Some (refusal (count_at bytes) 16)) (step_fault (steps_at bytes) (first_bad (steps_of_bytes bytes))) few
    ∙ ap (λ (n : ℕ). step_fault n (first_bad (steps_of_bytes bytes))) place
    ∙ ap (λ (l : List ℕ). step_fault first (first_bad (steps_in l))) (sym f.steps_is)

-- a step that no line can have
pub refused_step : (most : Option ℕ) (bytes text : List ℕ) (count : ℕ) (steps : List ℕ) (plan : Plan) (first : ℕ) (fault : ImageFault) → IsFramed bytes text count steps → IsPlanText text plan → first ≡ 16 + length text → is_over most plan.turns count ≡ false
    → step_fault first (first_bad (steps_in steps)) ≡ Some fault → IsRefused most bytes fault
refused_step most bytes text count steps plan first fault f h e over bad = refused_steps most bytes text count steps plan fault f h (steps_fault_is most bytes text count steps plan first f e over ∙ bad)

-- what stops the reading of the steps, and of the plan
pub steps_stopped : (most : Option ℕ) (bytes text : List ℕ) (count : ℕ) (steps : List ℕ) (plan : Plan) (first : ℕ) (stop : ImageStop) → IsFramed bytes text count steps → IsPlanText text plan → first ≡ 16 + length text → is_over most plan.turns count ≡ false
    → ((fault : ImageFault) → stop ≡ Refused fault → step_fault first (first_bad (steps_in steps)) ≡ Some fault) → Answers most bytes (Err stop)
steps_stopped most bytes text count steps plan first NoMemory f h e over bad = tt
steps_stopped most bytes text count steps plan first (Refused fault) f h e over bad = refused_step most bytes text count steps plan first fault f h e over (bad fault refl)

pub plan_stopped : (most : Option ℕ) (bytes text : List ℕ) (count : ℕ) (steps : List ℕ) (stop : ImageStop) → IsFramed bytes text count steps → ((fault : ImageFault) → stop ≡ Refused fault → IsNoPlanText text × (fault ≡ refusal 12 13)) → Answers most bytes (Err stop)
plan_stopped most bytes text count steps NoMemory f h = tt
plan_stopped most bytes text count steps (Refused fault) f h = refused_plan most bytes text count steps fault f (h fault refl).0 (h fault refl).1

-- no fault
pub read_whole : (most : Option ℕ) (bytes text : List ℕ) (count : ℕ) (steps : List ℕ) (plan : Plan) (first : ℕ) (read : List Step) → IsFramed bytes text count steps → IsPlanText text plan → first ≡ 16 + length text → is_over most plan.turns count ≡ false
    → step_fault first (first_bad (steps_in steps)) ≡ None → read ≡ steps_in steps → IsRead most bytes (image_with plan read)
read_whole most bytes text count steps plan first read f h e over good is = record {
  frame = f.frame;
  text = subst (λ (t : List ℕ). IsPlanText t plan) f.text_is h;
  whole = steps_fault_is most bytes text count steps plan first f e over ∙ good;
  steps = is ∙ ap steps_in f.steps_is;
}

-- a text whose plan is printed otherwise, or that spells none
pub other_text : OnePlan → (text : List ℕ) (plan : Plan) → Spells text plan → (plan_text plan ≡ text → ⊥) → IsNoPlanText text
other_text one text plan spelled differs other h = differs (ap plan_text (one text plan other spelled h.spelled) ∙ h.printed)

pub no_text : (text : List ℕ) → ((plan : Plan) → Spells text plan → ⊥) → IsNoPlanText text
no_text text none plan h = none plan h.spelled

-- ---- the laws
pub one_image : OnePlan → (most : Option ℕ) (bytes : List ℕ) (i j : Image) → IsImageOf most bytes i → IsImageOf most bytes j → i ≡ j
one_image one most bytes i j a b = same_read one most bytes i j (read_again most bytes i a) (read_again most bytes j b)

pub one_fault : OnePlan → (most : Option ℕ) (bytes : List ℕ) (f g : ImageFault) → IsRefused most bytes f → IsRefused most bytes g → f ≡ g
one_fault one most bytes f g a b = fault_once one most bytes f g (frame_fault bytes) a.first b.first

pub never_both : OnePlan → (most : Option ℕ) (bytes : List ℕ) (i : Image) (fault : ImageFault) → IsImageOf most bytes i → IsRefused most bytes fault → ⊥
never_both one most bytes i fault a f = never_read one most bytes i fault (read_again most bytes i a) f

-- ---- what is answered
pub answers_read : (most : Option ℕ) (bytes : List ℕ) (result : Result Image ImageStop) → AreBytes bytes → length bytes < 2 ^ 32 → Answers most bytes result → IfOk result (λ i. IsImageOf most bytes i)
answers_read most bytes (Ok i) small short a = image_read most bytes i small short a
answers_read most bytes (Err e) small short a = tt

pub answers_refused : (most : Option ℕ) (bytes : List ℕ) (result : Result Image ImageStop) (fault : ImageFault) → Answers most bytes result → result ≡ Err (Refused fault) → IsRefused most bytes fault
answers_refused most bytes (Ok i) fault a e = absurd (cc e)
answers_refused most bytes (Err NoMemory) fault a e = absurd (cc e)
answers_refused most bytes (Err (Refused f)) fault a e = let same : f ≡ fault = cc e in subst (λ (x : ImageFault). IsRefused most bytes x) same a

pub answers_again : OnePlan → (most : Option ℕ) (bytes : List ℕ) (result : Result Image ImageStop) (i : Image) → Answers most bytes result → IsImageOf most bytes i → (result ≡ Ok i) ⊎ (result ≡ Err NoMemory)
answers_again one most bytes (Ok j) i a h = inl (ap Ok (same_read one most bytes j i a (read_again most bytes i h)))
answers_again one most bytes (Err NoMemory) i a h = inr refl
answers_again one most bytes (Err (Refused f)) i a h = absurd (never_both one most bytes i f h a)

pub answers_exact : OnePlan → (most : Option ℕ) (bytes : List ℕ) (result : Result Image ImageStop) (fault : ImageFault) → Answers most bytes result → IsRefused most bytes fault → (result ≡ Err (Refused fault)) ⊎ (result ≡ Err NoMemory)
answers_exact one most bytes (Ok j) fault a h = absurd (never_read one most bytes j fault a h)
answers_exact one most bytes (Err NoMemory) fault a h = inr refl
answers_exact one most bytes (Err (Refused f)) fault a h = inl (ap (λ (x : ImageFault). Err (Refused x)) (one_fault one most bytes f fault a h))
