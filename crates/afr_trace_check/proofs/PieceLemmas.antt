-- What is so of a line that a text stands for: a piece that it copies ends within the longest file, and its bytes fit in it; it asks a brick that there is.
use Rattle.std.proofs.Common.{◌≡◌, ℕ, ◌+◌, ◌<◌, ◌≤◌, ◌==◌, ◌&&◌, ◌||◌, nat_le, nat_lt, Bool, true, false, List, Option, Some, None, length, refl, subst, arith, if◌then◌else◌}
use Rattle.std.specs.Prelude.{option_map}
use Rattle.std.proofs.lemmas.Bool.Decides.{nat_tests}
use Rattle.std.proofs.lemmas.Option.{same_Some}
use Rattle.afr_base.specs.Bricks.{and_left, and_right}
use Rattle.afr_base.specs.declared.ids.ActorId.{ActorId}
use Rattle.afr_base.specs.declared.ids.BrickId.{BrickId}
use Rattle.afr_lines.specs.Areas.{kind_for}
use Rattle.afr_lines.specs.Log.{change_at, from_oldest}
use Rattle.afr_lines.specs.Work.{ended}
use Rattle.afr_lines.specs.declared.answer.Told.{Told}
use Rattle.afr_lines.specs.declared.line.Line.{Line}
use Rattle.afr_lines.specs.declared.line.Line.TheVariants as line
use Rattle.afr_lines.specs.declared.request.Request.{Request}
use Rattle.afr_lines.specs.declared.request.Request.TheVariants as request
use Rattle.afr_object.specs.Tables.{object_of}
use Rattle.afr_object.specs.declared.change.Change.{Change}
use Rattle.afr_object.specs.declared.change.Change.TheVariants as change
use Rattle.afr_object.specs.declared.change.Repair.TheVariants as repair
use Rattle.afr_plan.specs.Reading.{checked}
use Rattle.afr_plan.specs.declared.command.Command.{Command}
use Rattle.afr_plan.specs.declared.command.Command.TheVariants as command
use Rattle.afr_plan.specs.declared.plan.Plan.{Plan}
use Rattle.afr_model.specs.Actors.{works_of}
use Rattle.afr_trace_follow.specs.Following.{HasFewActors}
use Rattle.afr_trace_tally.specs.Tally.{AsksKnown}
use Rattle.afr_trace_build.specs.Filling.{asked_line, begun, begun_write, done_by, fill, has_work, heal_reply_from, is_event_of, is_heal_end, present, reply_from, where_named}
use Rattle.afr_trace_build.specs.Requests.{area_from, asks_for, is_actor, is_answer, is_attrs_read, is_brick, is_read, flagged_bricks, may_all_miss, no_slots, placed_reads, post_from, request_from, told_from, took_from}
use Rattle.afr_trace_build.specs.Shown.{ask_shown, read_len, shown_by}
use Rattle.afr_trace_build.specs.declared.filling.Filled.{Filled}
use Rattle.afr_trace_build.specs.declared.filling.Filled.TheVariants as filled
use Rattle.afr_trace_read.specs.declared.kinds.Answered.{Answered}
use Rattle.afr_trace_read.specs.declared.kinds.Doing.{Doing}
use Rattle.afr_trace_read.specs.declared.kinds.Doing.TheVariants as doing
use Rattle.afr_trace_read.specs.declared.kinds.SpelledChange.{SpelledChange}
use Rattle.afr_trace_read.specs.declared.kinds.SpelledChange.TheVariants as changing
use Rattle.afr_trace_read.specs.declared.kinds.SpelledRequest.{SpelledRequest}
use Rattle.afr_trace_read.specs.declared.kinds.SpelledRequest.TheVariants as asked
use Rattle.afr_trace_read.specs.declared.kinds.TraceLine.{TraceLine}
use Rattle.afr_trace_read.specs.declared.kinds.TraceLine.TheVariants as trace_line

-- a copied piece fits
abbrev pub PieceFits : Plan → List Line → Request → Type 0
PieceFits p older (request.Mend (repair.Copy g at span read)) = (at + span ≤ 1048576) × (read_len p older read ≤ span)
PieceFits p older other = Unit {0}

-- so does that of a line
abbrev pub LineFits : Plan → List Line → Line → Type 0
LineFits p older (line.Ask a b r told took) = PieceFits p older r
LineFits p older other = Unit {0}

is_low : (m n : ℕ) → nat_le m n ≡ true → m ≤ n
is_low m n h = grind (arith, nat_tests, h)

module _ (p : Plan) (older : List Line) where
  -- what passes a test fits, where it does by the test
  if_checked : (ok : Bool) (r other : Request) → (ok ≡ true → PieceFits p older r) → checked ok r ≡ Some other → PieceFits p older other
  if_checked true r other h e = subst (PieceFits p older) (same_Some r other e) (h refl)
  if_checked false r other h e = absurd (cc e)

  if_there : {A : Type 0} (o : Option A) (f : A → Request) (other : Request) → ((x : A) → PieceFits p older (f x)) → option_map f o ≡ Some other → PieceFits p older other
  if_there None f other h e = absurd (cc e)
  if_there (Some x) f other h e = subst (PieceFits p older) (same_Some (f x) other e) (h x)

  copy_fits : (at span : ℕ) (reads : Bool) (len : ℕ) → (reads && nat_le (at + span) 1048576 && nat_le len span) ≡ true → (at + span ≤ 1048576) × (len ≤ span)
  copy_fits at span true len h = (is_low (at + span) 1048576 (and_left (nat_le (at + span) 1048576) (nat_le len span) h), is_low len span (and_right (nat_le (at + span) 1048576) (nat_le len span) h))
  copy_fits at span false len h = absurd (cc h)

  request_fits : (b : ℕ) (told : Answered) (s : SpelledRequest) (r : Request) → request_from p older (ask_shown p older b s told) s ≡ Some r → PieceFits p older r
  request_fits b told (asked.Copy g at long read) r e =
      if_checked (asks_for is_read (from_oldest read older) && nat_le (at + long) 1048576 && nat_le (read_len p older read) long) (request.Mend (repair.Copy g at long read)) r
      (λ h. copy_fits at long (asks_for is_read (from_oldest read older)) (read_len p older read) h) e
  request_fits b told (asked.Apply attempt) r e = if_there (change_at attempt older) (λ (begun_change : Change). request.Apply attempt) r (λ x. tt) e
  request_fits b told (asked.Post attempt missed) r e = by (change_at attempt older) e
    where
      by : (o : Option Change) → post_from p attempt missed o ≡ Some r → PieceFits p older r
      by None h = absurd (cc h)
      by (Some x) h = if_checked (may_all_miss p missed) (request.Post attempt (object_of x) (kind_for x) (flagged_bricks missed)) r (λ k. tt) h
  request_fits b told (asked.PutAttrs g read) r e = if_checked (asks_for is_attrs_read (from_oldest read older)) (request.Mend (repair.PutAttrs g read)) r (λ h. tt) e
  request_fits b told (asked.PutNames g reads) r e = if_there (placed_reads older 0 no_slots reads) (λ (slots : List (Option ℕ)). request.Mend (repair.PutNames g slots)) r (λ x. tt) e
  request_fits b told (asked.Lock domain g span) r e = subst (PieceFits p older) (same_Some (request.Lock domain (area_from g span)) r e) tt
  request_fits b told (asked.Unlock domain g span) r e = subst (PieceFits p older) (same_Some (request.Unlock domain (area_from g span)) r e) tt
  request_fits b told (asked.Look g) r e = subst (PieceFits p older) (same_Some (request.Look g) r e) tt
  request_fits b told (asked.ReadBytes g at len) r e = subst (PieceFits p older) (same_Some (request.ReadBytes g at len) r e) tt
  request_fits b told (asked.ReadName dir name) r e = subst (PieceFits p older) (same_Some (request.ReadName dir name) r e) tt
  request_fits b told (asked.List g) r e = subst (PieceFits p older) (same_Some (request.List g) r e) tt
  request_fits b told (asked.ReadAttr g key) r e = subst (PieceFits p older) (same_Some (request.ReadAttr g key) r e) tt
  request_fits b told (asked.ReadAttrs g) r e = subst (PieceFits p older) (same_Some (request.ReadAttrs g) r e) tt
  request_fits b told asked.Index r e = subst (PieceFits p older) (same_Some request.Index r e) tt
  request_fits b told (asked.Pre g kind) r e = subst (PieceFits p older) (same_Some (request.Pre g kind) r e) tt
  request_fits b told (asked.CutTo g len) r e = subst (PieceFits p older) (same_Some (request.Mend (repair.CutTo g len)) r e) tt
  request_fits b told (asked.Settle g kind less) r e = subst (PieceFits p older) (same_Some (request.Settle g kind less) r e) tt

-- ---- lines that texts stand for
stands_same : (m n : Line) → filled.Stands m ≡ filled.Stands n → m ≡ n
stands_same m n k = cc k

abbrev asks_nothing : Line → Bool
asks_nothing (line.Ask a b r told took) = false
asks_nothing l = true

-- a fact of each line that asks nothing, and of each that asks a brick of the plan what its text says
module _ (P : Line → Type 0) (p : Plan) (older : List Line) (quiet : (l : Line) → asks_nothing l ≡ true → P l) (asks : (a : ActorId) (b : BrickId) (r : Request) (told : Told) (took : Bool) (s : SpelledRequest) (answer : Answered) → is_actor p a.0 ≡ true → is_brick p b.0 ≡ true → request_from p older (ask_shown p older b.0 s answer) s ≡ Some r → P (line.Ask a b r told took)) where
  same_has : (m l : Line) → P m → filled.Stands m ≡ filled.Stands l → P l
  same_has m l h e = subst P (stands_same m l e) h

  named_has : (named : Bool) (f : Filled) (l : Line) → (named ≡ true → f ≡ filled.Stands l → P l) → where_named named f ≡ filled.Stands l → P l
  named_has true f l h e = h refl e
  named_has false f l h e = absurd (cc e)

  begun_has : (a : ActorId) (s : SpelledChange) (l : Line) → begun p older a s ≡ filled.Stands l → P l
  begun_has a (changing.Write g at len) l e = by (present p a older) e
    where
      by_len : (f : Bool) (m : Line) → P m → (if f then filled.Stands m else filled.OtherWords) ≡ filled.Stands l → P l
      by_len true m h k = same_has m l h k
      by_len false m h k = absurd (cc k)

      by : (o : Option Command) → begun_write a g at len o ≡ filled.Stands l → P l
      by (Some (command.Write path off bytes)) k = by_len (length bytes == len) (line.Begin a (change.Write g at bytes)) (quiet (line.Begin a (change.Write g at bytes)) refl) k
      by o k = absurd (cc k)
  begun_has a (changing.Cut g len) l e = same_has (line.Begin a (change.Cut g len)) l (quiet (line.Begin a (change.Cut g len)) refl) e
  begun_has a (changing.SetAttr g key value) l e = same_has (line.Begin a (change.SetAttr g key value)) l (quiet (line.Begin a (change.SetAttr g key value)) refl) e
  begun_has a (changing.Make what dir name g) l e = same_has (line.Begin a (change.Make dir name g what)) l (quiet (line.Begin a (change.Make dir name g what)) refl) e
  begun_has a (changing.Remove what dir name) l e = same_has (line.Begin a (change.Remove dir name what)) l (quiet (line.Begin a (change.Remove dir name what)) refl) e

  asked_has : (a : ActorId) (b : BrickId) (s : SpelledRequest) (answer : Answered) → is_actor p a.0 ≡ true → is_brick p b.0 ≡ true → (o : Option Request) → request_from p older (ask_shown p older b.0 s answer) s ≡ o → (l : Line)
      → asked_line a b (ask_shown p older b.0 s answer) answer o ≡ filled.Stands l → P l
  asked_has a b s answer actor brick None e l k = absurd (cc k)
  asked_has a b s answer actor brick (Some r) e l k =
      same_has (line.Ask a b r (told_from (ask_shown p older b.0 s answer) answer) (took_from answer)) l (asks a b r (told_from (ask_shown p older b.0 s answer) answer) (took_from answer) s answer actor brick e) k

  done_has : (a : ActorId) (does : Doing) (text : List ℕ) (l : Line) → is_actor p a.0 ≡ true → done_by p older (shown_by p older (trace_line.Of a does)) a does text ≡ filled.Stands l → P l
  done_has a (doing.Ask b s answer) text l actor e =
      named_has (is_brick p b.0 && is_answer p answer) (asked_line a b (ask_shown p older b.0 s answer) answer (request_from p older (ask_shown p older b.0 s answer) s)) l
      (λ named k. asked_has a b s answer actor (and_left (is_brick p b.0) (is_answer p answer) named) (request_from p older (ask_shown p older b.0 s answer) s) refl l k) e
  done_has a (doing.HealBegin kind g) text l actor e = same_has (line.HealBegin a g kind) l (quiet (line.HealBegin a g kind) refl) e
  done_has a (doing.Begin spelled) text l actor e = begun_has a spelled l e
  done_has a (doing.HealEnd kind g end) text l actor e =
      named_has (is_heal_end p end) (filled.Stands (line.HealEnd a g kind (heal_reply_from (shown_by p older (trace_line.Of a (doing.HealEnd kind g end))) end))) l
      (λ named k. same_has (line.HealEnd a g kind (heal_reply_from (shown_by p older (trace_line.Of a (doing.HealEnd kind g end))) end)) l
      (quiet (line.HealEnd a g kind (heal_reply_from (shown_by p older (trace_line.Of a (doing.HealEnd kind g end))) end)) refl) k) e
  done_has a (doing.End end) text l actor e =
      same_has (line.End a (reply_from p older (shown_by p older (trace_line.Of a (doing.End end))) a end text)) l (quiet (line.End a (reply_from p older (shown_by p older (trace_line.Of a (doing.End end))) a end text)) refl) e

  pub filled_has : (x : TraceLine × List ℕ) (l : Line) → fill p older x ≡ filled.Stands l → P l
  filled_has (trace_line.Event happens, text) l e = named_has (is_event_of p happens) (filled.Stands (line.Event happens)) l (λ named k. same_has (line.Event happens) l (quiet (line.Event happens) refl) k) e
  filled_has (trace_line.Of a does, text) l e =
      named_has (has_work p older a) (done_by p older (shown_by p older (trace_line.Of a does)) a does text) l
      (λ named k. done_has a does text l (and_left (is_actor p a.0) (nat_lt (ended a.0 older) (works_of p a.0)) named) k) e

-- ---- what is so of them
quiet_fits : (p : Plan) (older : List Line) (l : Line) → asks_nothing l ≡ true → LineFits p older l
quiet_fits p older (line.Ask a b r told took) h = absurd (cc h)
quiet_fits p older l h = tt

-- a piece that one copies fits
pub filled_fits : (p : Plan) (older : List Line) (x : TraceLine × List ℕ) (l : Line) → fill p older x ≡ filled.Stands l → LineFits p older l
filled_fits p older x l e = filled_has (LineFits p older) p older (quiet_fits p older) (λ a b r told took s answer actor brick k. request_fits p older b.0 answer s r k) x l e

quiet_known : (l : Line) → asks_nothing l ≡ true → AsksKnown l
quiet_known (line.Ask a b r told took) h = absurd (cc h)
quiet_known l h = tt

actor_low : (a clients healers : ℕ) → clients ≤ 16 → healers ≤ 3 → ((nat_le 1 a && nat_le a clients) || (nat_le 17 a && nat_le a (16 + healers))) ≡ true → a < 20
actor_low a clients healers c h k = grind (arith, nat_tests, c, h, k)

brick_low : (b n : ℕ) → n ≤ 5 → nat_lt b n ≡ true → b < 5
brick_low b n few h = grind (arith, nat_tests, few, h)

-- one that asks is of one of twenty actors, and asks one of five bricks
pub filled_known : (p : Plan) (older : List Line) (x : TraceLine × List ℕ) (l : Line) → p.shape.n ≤ 5 → HasFewActors p → fill p older x ≡ filled.Stands l → AsksKnown l
filled_known p older x l five few e =
    filled_has AsksKnown p older quiet_known
    (λ a b r told took s answer actor brick k. (actor_low a.0 (length p.clients) (length p.healers) few.clients few.healers actor, brick_low b.0 p.shape.n five brick)) x l e
