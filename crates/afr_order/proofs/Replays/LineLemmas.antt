-- The lines of a volume have steps that lines can have, so its image is one that is read again.
use Rattle.std.proofs.Common.{◌≡◌, ℕ, ◌+◌, ◌*◌, ◌^◌, ◌<◌, ◌≤◌, ◌==◌, ◌&&◌, ◌||◌, Bool, true, false, Some, None, List, [], ◌∷◌, ◌++◌, length, map, reverse, nat_le, nat_lt, refl, sym, ◌∙◌, ap, subst, arith, if◌then◌else◌}
use Rattle.std.specs.Prelude.{slice_get}
use Rattle.std.proofs.lemmas.Bool.{eq-eqb, eqb-true, le-leb, le-ltb, lt-ltb}
use Rattle.afr_base.specs.Bricks.{and_left, and_right}
use Rattle.std.proofs.lemmas.List.{length-map, length-reverse, map-append, reverse-append, reverse-reverse}
use Rattle.std.proofs.lemmas.List.Folds.{list_all-append}
use Rattle.afr_base.specs.declared.ids.ActorId.{ActorId}
use Rattle.afr_base.specs.declared.ids.BrickId.{BrickId}
use Rattle.afr_image.specs.declared.step.Step.{Step}
use Rattle.afr_image.specs.Images.{IsImage}
use Rattle.afr_image.specs.Logs.{HasShortActors, image_of}
use Rattle.afr_image.specs.Steps.{are_steps, asked_step, heal_number, is_asked_step, is_event_step, is_own_code, is_own_step, is_step, is_within, own_step, reply_number, step_of, told_code}
use Rattle.afr_law_bound.proofs.Standstill.Standing.{is_actor}
use Rattle.afr_law.specs.Exactly.{IsLawfulExactly, name_bound}
use Rattle.afr_law.specs.Beginning.{start_of}
use Rattle.afr_lines.specs.Log.{EachLine, from_oldest}
use Rattle.afr_lines.specs.declared.answer.Told.{Told}
use Rattle.afr_lines.specs.declared.answer.Told.TheVariants as told
use Rattle.afr_lines.specs.declared.line.Line.{Line}
use Rattle.afr_lines.specs.declared.line.Line.TheVariants.{Ask, Begin, HealBegin, End, HealEnd, Event}
use Rattle.afr_lines.specs.declared.reply.HealReply.{HealReply}
use Rattle.afr_lines.specs.declared.reply.HealReply.TheVariants as healed
use Rattle.afr_lines.specs.declared.reply.Reply.{Reply}
use Rattle.afr_lines.specs.declared.reply.Reply.TheVariants as reply
use Rattle.afr_model.specs.Actors.{IsActor, Client, Healer}
use Rattle.afr_model.specs.Following.{Follows, IsFollowing}
use Rattle.afr_model_moves.specs.ByList.{IsExactLine}
use Rattle.afr_plan.specs.declared.plan.Plan.{Plan}
use Rattle.afr_plan.specs.Spells.{Spells}
use Rattle.afr_plan_print.specs.PrintedPlan.{plan_text}
use Rattle.afr_lines.specs.LogLemmas.{from_oldest-reverse}

-- ---- one line
-- the actors of a plan that is not too large
record IsSmallPlan (p : Plan) : Type 0 where
  bricks : p.shape.n ≤ 5
  clients : length p.clients ≤ 16
  healers : length p.healers ≤ 3

actor_within : (p : Plan) (a : ℕ) → IsSmallPlan p → IsActor p a → (1 ≤ a) × (a ≤ 19)
actor_within p a few (Client low high) = (low, omega (arith, few.clients, high))
actor_within p a few (Healer low high) = (omega (arith, low), omega (arith, few.healers, high))

within : (a : ℕ) → (1 ≤ a) × (a ≤ 19) → is_within 1 19 a ≡ true
within a h = rw (le-leb 1 a h.0, le-leb a 19 h.1) refl

told_within : (t : Told) (took : Bool) → nat_le (told_code t took) 8 ≡ true
told_within told.Granted took = refl
told_within (told.Held owner) took = refl
told_within (told.Seen view) took = refl
told_within told.Done took = refl
told_within told.Given took = refl
told_within told.NoObject took = refl
told_within told.NotConnected true = refl
told_within told.NotConnected false = refl
told_within told.Failed took = refl

replies : (r : Reply) → is_own_code (16 + reply_number r) ≡ true
replies (reply.Ok good) = refl
replies reply.NoEntry = refl
replies reply.Exists = refl
replies reply.NotDir = refl
replies reply.IsDir = refl
replies reply.NotEmpty = refl
replies reply.NoQuorum = refl
replies reply.FewCopies = refl
replies (reply.SplitBrain views) = refl
replies reply.Failed = refl
replies reply.TooLarge = refl
replies reply.Half = refl

heal_replies : (r : HealReply) → is_own_code (32 + heal_number r) ≡ true
heal_replies healed.Nothing = refl
heal_replies healed.Settled = refl
heal_replies (healed.Split views) = refl
heal_replies (healed.Busy owner) = refl
heal_replies healed.Short = refl
heal_replies (healed.Moved brick) = refl
heal_replies healed.Failed = refl

second : (x y z : Bool) → y ≡ true → (x || y || z) ≡ true
second true y z e = refl
second false y z e = rw e refl

third : (x y z : Bool) → z ≡ true → (x || y || z) ≡ true
third true y z e = refl
third false true z e = refl
third false false z e = e

three : (x y z : Bool) → x ≡ true → y ≡ true → z ≡ true → (x && y && z) ≡ true
three x y z e f g = rw (e, f, g) refl

below_five : (b : ℕ) → b < 5 → nat_lt b 5 ≡ true
below_five b h = lt-ltb b 5 h

asked : (a : ActorId) (b : BrickId) (t : Told) (took : Bool) → (1 ≤ a.0) × (a.0 ≤ 19) → b.0 < 5 → is_step (asked_step a b t took) ≡ true
asked a b t took h low = second (is_event_step (asked_step a b t took)) (is_asked_step (asked_step a b t took)) (is_own_step (asked_step a b t took)) (three _ _ _ (within a.0 h) (below_five b.0 low) (told_within t took))

own : (a : ActorId) (code : ℕ) → (1 ≤ a.0) × (a.0 ≤ 19) → is_own_code code ≡ true → is_step (own_step a code) ≡ true
own a code h e = third (is_event_step (own_step a code)) (is_asked_step (own_step a code)) (is_own_step (own_step a code)) (three _ _ _ (within a.0 h) refl e)

-- the step of a line: a line can have it, and its actor has a number of one byte
record IsFine (line : Line) : Type 0 where
  step : is_step (step_of line) ≡ true
  short : (step_of line).who < 2 ^ 8

fine_line : (p : Plan) (line : Line) (older : List Line) → IsSmallPlan p → IsFollowing false p line older → IsExactLine p.shape.n (start_of p (name_bound p)) line older → IsFine line
fine_line p (Ask a b request t took) older few f x = let h = actor_within p a.0 few f.1.0.actor in record { step = asked a b t took h (omega (arith, few.bricks, x.1.0)); short = omega (arith, h.1) }
fine_line p (Begin a change) older few f x = let h = actor_within p a.0 few f.1.0.actor in record { step = own a 9 h refl; short = omega (arith, h.1) }
fine_line p (HealBegin a g kind) older few f x = let h = actor_within p a.0 few f.1.0.actor in record { step = own a 10 h refl; short = omega (arith, h.1) }
fine_line p (End a r) older few f x = let h = actor_within p a.0 few f.1.0.actor in record { step = own a (16 + reply_number r) h (replies r); short = omega (arith, h.1) }
fine_line p (HealEnd a g kind r) older few f x = let h = actor_within p a.0 few f.1.0.actor in record { step = own a (32 + heal_number r) h (heal_replies r); short = omega (arith, h.1) }
fine_line p (Event e) older few f x = record { step = refl; short = omega arith }

-- ---- all lines
fine_lines : (p : Plan) (log : List Line) → IsSmallPlan p → Follows false p log → IsLawfulExactly p log → EachLine (λ line older. IsFine line) log
fine_lines p [] few f x = tt
fine_lines p (line ∷ older) few f x = (fine_line p line older few f.0 x.0, fine_lines p older few f.1 x.1)

fine_at : (log : List Line) (k : ℕ) (line : Line) → EachLine (λ l older. IsFine l) log → from_oldest k log ≡ Some line → IsFine line
fine_at [] k line h e = absurd (cc e)
fine_at (x ∷ older) k line h e = go (k == length older) e (fine_at older k line h.1)
  where
    go : (b : Bool) → (if b then Some x else from_oldest k older) ≡ Some line → (from_oldest k older ≡ Some line → IsFine line) → IsFine line
    go true s rest = let same : x ≡ line = cc s in subst IsFine same h.0
    go false s rest = rest s

pub short_actors : (p : Plan) (log items : List Line) → p.shape.n ≤ 5 → length p.clients ≤ 16 → length p.healers ≤ 3 → Follows false p log → IsLawfulExactly p log → reverse items ≡ log → HasShortActors items
short_actors p log items bricks clients healers f x e = record {
  each = λ i line there. (fine_at log i line (fine_lines p log (record { bricks = bricks; clients = clients; healers = healers }) f x) (ap (from_oldest i) (sym e) ∙ from_oldest-reverse items i ∙ there)).short;
}

pub items_are : (log items : List Line) → reverse items ≡ log → items ≡ reverse log
items_are log items e = sym (reverse-reverse items) ∙ ap reverse e

and_both : (x y : Bool) → x ≡ true → y ≡ true → (x && (y && true)) ≡ true
and_both x y e f = rw (e, f) refl

all_steps : (log : List Line) → EachLine (λ l older. IsFine l) log → are_steps (map step_of (reverse log)) ≡ true
all_steps [] h = refl
all_steps (line ∷ older) h =
    ap (λ (l : List Line). are_steps (map step_of l)) (reverse-append (line ∷ []) older)
    ∙ ap are_steps (map-append step_of (reverse older) (line ∷ []))
    ∙ list_all-append is_step (map step_of (reverse older)) (step_of line ∷ [])
    ∙ and_both (are_steps (map step_of (reverse older))) (is_step (step_of line)) (all_steps older h.1) h.0.step

not_over : (turns steps : ℕ) → steps ≤ turns → nat_lt turns steps ≡ false
not_over turns steps h = le-ltb turns steps h

pub recorded : (p : Plan) (log : List Line) → p.shape.n ≤ 5 → length p.clients ≤ 16 → length p.healers ≤ 3 → p.turns ≤ 4000000 → length log ≤ p.turns → Follows false p log → IsLawfulExactly p log → Spells (plan_text p) p → length (plan_text p) < 2 ^ 32 → IsImage None (image_of p log)
recorded p log bricks clients healers turns room f x spelled short =
    let len : length (map step_of (reverse log)) ≡ length log = length-map (reverse log) step_of ∙ length-reverse log in
    record {
      plan = spelled;
      numbers = record { text = short; steps = omega (arith, len, room, turns) };
      few = not_over p.turns (length (map step_of (reverse log))) (omega (arith, len, room));
      steps = all_steps log (fine_lines p log (record { bricks = bricks; clients = clients; healers = healers }) f x);
    }

-- ---- the newest line
pub newest_line : (items older : List Line) (line : Line) → reverse items ≡ line ∷ older → slice_get items (length older) ≡ Some line
newest_line items older line e =
    let here : (length older == length older) ≡ true = eq-eqb (length older) (length older) refl in
    let there : from_oldest (length older) (line ∷ older) ≡ Some line = rw here refl in
    sym (from_oldest-reverse items (length older)) ∙ ap (from_oldest (length older)) e ∙ there

-- ---- two steps
abbrev step_with : ℕ → ℕ → ℕ → Step
step_with who brick code = record { who = who; brick = brick; code = code }

pub same_step : (a b : Step) → ((a.who == b.who) && (a.brick == b.brick) && (a.code == b.code)) ≡ true → a ≡ b
same_step a b e =
    let f = and_left _ _ e in
    let who : a.who ≡ b.who = eqb-true a.who b.who (and_left _ _ f) in
    let brick : a.brick ≡ b.brick = eqb-true a.brick b.brick (and_right _ _ f) in
    let code : a.code ≡ b.code = eqb-true a.code b.code (and_right _ _ e) in
    ap (λ (n : ℕ). step_with n a.brick a.code) who ∙ ap (λ (n : ℕ). step_with b.who n a.code) brick ∙ ap (step_with b.who b.brick) code

pub other_step : (a b : Step) → ((a.who == b.who) && (a.brick == b.brick) && (a.code == b.code)) ≡ false → a ≡ b → ⊥
other_step a b e same =
    let who : (a.who == b.who) ≡ true = eq-eqb a.who b.who (ap (λ (s : Step). s.who) same) in
    let brick : (a.brick == b.brick) ≡ true = eq-eqb a.brick b.brick (ap (λ (s : Step). s.brick) same) in
    let code : (a.code == b.code) ≡ true = eq-eqb a.code b.code (ap (λ (s : Step). s.code) same) in
    let all : ((a.who == b.who) && (a.brick == b.brick) && (a.code == b.code)) ≡ true = rw (who, brick, code) refl in
    cc (sym all ∙ e)

-- ---- the actors of a plan
pub numbered : (p : Plan) (a m n : ℕ) → m ≡ length p.clients → n ≡ length p.healers → ((nat_le 1 a && nat_le a m) || (nat_le 17 a && nat_le a (16 + n))) ≡ is_actor p a
numbered p a m n e f = rw (e, f) refl
