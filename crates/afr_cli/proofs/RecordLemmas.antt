-- The bytes of a volume's image, and that they are read again.
use Rattle.std.proofs.Common.{◌≡◌, ◌≤◌, ◌⊎◌, ◌||◌, ◌∙◌, ℕ, false, List, Option, Some, None, drop, length, map, nat_lt, reverse, ap, inl, inr, refl, arith}
use Rattle.std.proofs.lemmas.Bool.{le-ltb, or_from}
use Rattle.std.proofs.lemmas.List.{length-drop, length-map, length-reverse, length-take-le}
use Rattle.afr_image.specs.Frame.{bytes_with, text_in, text_len}
use Rattle.afr_image.specs.Images.{IsImage}
use Rattle.afr_image.specs.Logs.{image_of}
use Rattle.afr_image.specs.declared.image.Image.{Image}
use Rattle.afr_image.proofs.FrameLemmas.{HaveParts, parts_of_image}
use Rattle.afr_image.specs.Steps.{step_of}
use Rattle.afr_image.specs.declared.step.Step.{Step}
use Rattle.afr_lines.specs.declared.line.Line.{Line}
use Rattle.afr_plan.specs.declared.plan.Plan.{Plan}
use Rattle.afr_plan_print.specs.PrintedPlan.{plan_text}
use Rattle.afr_plan_print.proofs.RoundTripLemmas.{printed_again, printed_short}
use Rattle.afr_order.proofs.Replays.LineLemmas.{recorded}
use Rattle.afr_volume.specs.Right.{IsRight}
use Rattle.afr_cli.specs.Live.{IsRecorded, image_text}
use Rattle.afr_cli.specs.Statuses.{IsSpelled}

-- the plan and the steps are those of the image
pub image_is : (p : Plan) (log : List Line) (q : Plan) (steps : List Step) → q ≡ p → steps ≡ map step_of (reverse log) → bytes_with (plan_text q) steps ≡ image_text p log
unfolding image_text
image_is p log q steps plan made = ap (λ (r : Plan). bytes_with (plan_text r) steps) plan ∙ ap (bytes_with (plan_text p)) made

-- ---- read again
-- an image is one of each replay that has turns for its steps
for_turns : (i : Image) (turns : ℕ) → IsImage None i → length i.steps ≤ turns → IsImage (Some turns) i
for_turns i turns h enough = record {
  plan = h.plan;
  numbers = h.numbers;
  few = or_from (nat_lt i.plan.turns (length i.steps)) (nat_lt turns (length i.steps)) h.few (le-ltb turns (length i.steps) enough);
  steps = h.steps;
}

few_bytes : (bytes text : List ℕ) (steps : List Step) → bytes ≡ bytes_with text steps → length text ≤ 16777216 → length steps ≤ 4000000 → length bytes ≤ 33554432
few_bytes bytes text steps e short few =
    let parts : HaveParts bytes text steps = parts_of_image bytes text steps (omega (arith, short)) (omega (arith, few)) e in
    let whole : length (text_in bytes) ≡ text_len bytes = length-take-le (text_len bytes) (drop 12 bytes) (omega (arith, length-drop 12 bytes, parts.ends)) in
    let same : length (text_in bytes) ≡ length text = ap length parts.text_is in
    omega (arith, parts.ends, whole, same, parts.count_is, short, few)

pub is_recorded : (p : Plan) (log : List Line) (left left' : Option (List ℕ)) → IsSpelled left left' p → p.shape.n ≤ 5 → length p.clients ≤ 16 → length p.healers ≤ 3 → p.turns ≤ 4000000 → length log ≤ p.turns → IsRight p log
    → IsRecorded p log
unfolding image_text
is_recorded p log left left' s bricks clients healers turns room right =
    let printed : length (plan_text p) ≤ length s.bytes = printed_short s.bytes p s.spells in
    let short : length (plan_text p) ≤ 16777216 = omega (arith, printed, s.read.few) in
    let len : length (map step_of (reverse log)) ≡ length log = length-map (reverse log) step_of ∙ length-reverse log in
    let image : IsImage None (image_of p log) = recorded p log bricks clients healers turns room right.follows right.lawful (printed_again s.bytes p s.spells) (omega (arith, short)) in
    record {
      read = λ most enough. record { image = for_turns (image_of p log) most image (omega (arith, len, enough)); spelled = refl };
      few = few_bytes (bytes_with (plan_text p) (map step_of (reverse log))) (plan_text p) (map step_of (reverse log)) refl short (omega (arith, len, room, turns));
    }

-- what both ends of a run say
pub ended_has : {P : Type 0} (r : ℕ) → (r ≡ 0 → P) → (r ≡ 7 → P) → (r ≡ 0) ⊎ (r ≡ 7) → P
ended_has r zero seven (inl e) = zero e
ended_has r zero seven (inr e) = seven e
