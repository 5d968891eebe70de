-- A line of the crawler, and the lists that it was given.
use Rattle.std.proofs.Common.{◌≡◌, ◌∙◌, ℕ, suc, ◌+◌, ◌-◌, ◌<◌, ◌≤◌, ◌==◌, ◌++◌, Bool, true, false, List, [], ◌∷◌, Option, None, Some, if◌then◌else◌, refl, sym, ap, arith, subst, length, reverse, slice_get, get_or}
use Rattle.std.proofs.lemmas.Bool.Decides.{nat_tests}
use Rattle.std.specs.Prelude.{option_and_then}
use Rattle.std.proofs.lemmas.List.{length-reverse, reverse-append}
use Rattle.afr_base.specs.declared.ids.ActorId.{ActorId}
use Rattle.afr_base.specs.declared.ids.BrickId.{BrickId}
use Rattle.afr_base.specs.declared.ids.Gfid.{Gfid}
use Rattle.afr_base.specs.declared.ids.What.{What}
use Rattle.std.proofs.lemmas.Option.{slice_get-get_or}
use Rattle.afr_law.proofs.Model.Tasks.{no_script}
use Rattle.afr_model.specs.Actors.{rounds_of}
use Rattle.afr_lines.specs.Work.{Work, ended, is_of, work}
use Rattle.afr_lines.specs.declared.answer.Told.{Told}
use Rattle.afr_lines.specs.declared.answer.Told.TheVariants.{Given}
use Rattle.afr_lines.specs.declared.line.Event.{Event as OfEvent}
use Rattle.afr_lines.specs.declared.line.Line.{Line}
use Rattle.afr_lines.specs.declared.line.Line.TheVariants.{Ask, Begin, End, Event, HealBegin, HealEnd}
use Rattle.afr_lines.specs.declared.request.Request.{Request}
use Rattle.afr_lines.specs.declared.request.Request.TheVariants as request
use Rattle.afr_model.specs.Crawl.{KeepsToCrawl, given_after, given_by, list_at, lists_after, lists_by}
use Rattle.afr_model.specs.Following.{KeepsToTask, ToCommand, ToCrawl, ToItem, ToRound}
use Rattle.afr_model.specs.Rounds.{due_in}
use Rattle.afr_model.specs.Tables.{holds}
use Rattle.afr_object.specs.Indexed.{index_of}
use Rattle.afr_plan.specs.declared.plan.Plan.{Plan}
use Rattle.afr_base.specs.declared.ids.Kind.{Kind}
use Rattle.afr_base.proofs.TestLemmas.{same_number}
use Rattle.afr_heal_round.specs.Rounding.{IsAnswered, next_of}
use Rattle.afr_healer.specs.Acting.{Stepped, SteppedBy}
use Rattle.afr_healer.specs.Laws.{RoundKeeps}
use Rattle.afr_healer.specs.declared.healer.Healer.{Healer}
use Rattle.afr_lines.specs.Log.{from_oldest}
use Rattle.afr_lines.specs.LogLemmas.{from_oldest-reverse}
use Rattle.afr_lines.specs.Told.{told_by}
use Rattle.afr_lines.specs.declared.line.Next.{Next}
use Rattle.afr_lines.specs.declared.line.Next.TheVariants as next
use Rattle.afr_lines.specs.declared.reply.Reply.{Reply}
use Rattle.afr_server.specs.Serving.{Serving}
use Rattle.afr_servers.specs.Log.{AreServed}
use Rattle.afr_volume.specs.Keeping.{AreHealers}
use Rattle.afr_volume.proofs.LogLemmas.{reverse_push}
use Rattle.afr_volume.proofs.SourceLemmas.{own_of}
use Rattle.afr_volume.specs.Lists.{Lists, ShowsNext, gives_index, given_lists, noted, with_present}

-- ---- a line of anybody else
lists_beside : (p : Plan) (line : Line) (log : List Line) (was : Lists) → is_of 17 line ≡ false → lists_after p line log was ≡ was
lists_beside p (End x said) log was other = rw other refl
lists_beside p (Ask a b asked told took) log was other = refl
lists_beside p (Begin a change) log was other = refl
lists_beside p (HealBegin a g kind) log was other = refl
lists_beside p (HealEnd a g kind said) log was other = refl
lists_beside p (Event event) log was other = refl

pub given_beside : (p : Plan) (line : Line) (log : List Line) → is_of 17 line ≡ false → given_lists p (line ∷ log) ≡ given_lists p log
given_beside p line log other =
    let same : work 17 (line ∷ log) ≡ work 17 log = rw other refl in
    ap (λ (w : Work). with_present p w (lists_by p (line ∷ log))) same ∙ ap (with_present p (work 17 log)) (lists_beside p line log (lists_by p log) other)

-- ---- the crawler asks for an index
given_first : (p : Plan) (a : ActorId) (b : BrickId) (told : Told) (took : Bool) (log : List Line) → given_after p (Ask a b request.Index told took) log None ≡ (if gives_index (Ask a b request.Index told took) then Some (index_of (holds p log b.0)) else None)
given_first p a b Given took log = refl
given_first p a b told took log = refl

pub given_index : (p : Plan) (a : ActorId) (b : BrickId) (told : Told) (took : Bool) (log : List Line) → a.0 ≡ 17 → work 17 log ≡ []
    → given_lists p (Ask a b request.Index told took ∷ log) ≡ (if gives_index (Ask a b request.Index told took) then Some (index_of (holds p log b.0)) else None) ∷ given_lists p log
given_index p a b told took log who none =
    let own : (a.0 == 17) ≡ true = ap (λ (n : ℕ). n == 17) who ∙ same_number 17 in
    rw (own, none) (ap (λ (list : Option (List (Gfid × What))). list ∷ lists_by p log) (given_first p a b told took log))

-- ---- it ends its round
present_some : (p : Plan) (first : Line × List Line) (older w : Work) (lists : Lists) → w ≡ first ∷ older → with_present p w lists ≡ given_by p w ∷ lists
present_some p first older w lists e = rw e refl

pub given_end : (p : Plan) (a : ActorId) (said : Reply) (log : List Line) (first : Line × List Line) (older : Work) → a.0 ≡ 17 → work 17 log ≡ first ∷ older → given_lists p (End a said ∷ log) ≡ given_lists p log
given_end p a said log first older who begun =
    let own : (a.0 == 17) ≡ true = ap (λ (n : ℕ). n == 17) who ∙ same_number 17 in
    rw own (sym (present_some p first older (work 17 log) (lists_by p log) begun))

-- ---- what its line is
-- it keeps to its round
round_line : (p : Plan) (line : Line) (log : List Line) → length p.clients ≤ 16 → KeepsToTask true p 17 line log → (b : BrickId) × (slice_get (rounds_of p 17) (ended 17 log) ≡ Some b) × KeepsToCrawl b line (work 17 log)
round_line p line log few (ToCommand c is k) = absurd (no_script p 17 (ended 17 log) c few (omega arith) is)
round_line p line log few (ToRound plain low b is k) = absurd (cc plain)
round_line p line log few (ToCrawl crawls who b is k) = (b, is, k)
round_line p line log few (ToItem crawls low item given of) = absurd (omega (arith, low))

none_due : (w : Work) (heal : Gfid × Kind) → due_in [] w ≡ Some heal → ⊥
none_due w heal e = cc e

-- so a request is the first line, and is for the index
asks_first : (b : BrickId) (a : ActorId) (y : BrickId) (asked : Request) (told : Told) (took : Bool) (w : Work) → KeepsToCrawl b (Ask a y asked told took) w → (asked ≡ request.Index) × (w ≡ []) × (y ≡ b)
asks_first b a y request.Index told took w k = (refl, k.0, k.1)
asks_first b a y asked told took w k = absurd (none_due w (k.object, k.kind) k.due)

-- ---- a line of the crawler, as the volume notes it
some_server : (servers : List Serving) (b : ℕ) → b < length servers → (s : Serving) × (slice_get servers b ≡ Some s)
some_server [] b small = absurd (omega (arith, small))
some_server (s ∷ servers) b small = (get_or (s ∷ servers) b s, slice_get-get_or (s ∷ servers) b s small)

module _ (p : Plan) (a : ActorId) (log : List Line) (servers new : List Serving) (x y : Healer) (line : Line) (lists : Lists) (shown : Option (List (Gfid × What))) (who : a.0 ≡ 17) (few : length p.clients ≤ 16) (bricks : (k : ℕ) (b : BrickId) → slice_get (rounds_of p 17) k ≡ Some b → b.0 < p.shape.n)
    (served : AreServed p log servers) (k : RoundKeeps true p a log line y servers new) (s : Stepped IsAnswered a (length log) x y servers new line) (shows : ShowsNext servers shown (next_of s.round)) (was : reverse lists ≡ given_lists p log) where
  round : (b : BrickId) × (slice_get (rounds_of p 17) (ended 17 log) ≡ Some b) × KeepsToCrawl b line (work 17 log)
  round = round_line p line log few (subst (λ (c : ℕ). KeepsToTask true p c line log) who k.keeps)

  module _ (b : BrickId) (told : Told) (took : Bool) (none : work 17 log ≡ []) (showing : Serving) (there : slice_get servers b.0 ≡ Some showing) (is : shown ≡ Some (index_of showing.copies.objects)) where
    abbrev index_line : Line
    index_line = Ask a b request.Index told took

    same_list : index_of showing.copies.objects ≡ index_of (holds p log b.0)
    same_list = ap index_of (served.each b.0 showing there).objects

    one_more : (list : List (Gfid × What)) → list ≡ index_of (holds p log b.0) → reverse (noted (Some list) index_line lists) ≡ given_lists p (index_line ∷ log)
    one_more list same =
        reverse-append lists ((if gives_index index_line then Some list else None) ∷ [])
        ∙ ap (λ (rest : Lists). (if gives_index index_line then Some list else None) ∷ rest) was
        ∙ ap (λ (shown : List (Gfid × What)). (if gives_index index_line then Some shown else None) ∷ given_lists p log) same
        ∙ sym (given_index p a b told took log who none)

    asked_noted : reverse (noted shown index_line lists) ≡ given_lists p (index_line ∷ log)
    asked_noted = subst (λ (o : Option (List (Gfid × What))). reverse (noted o index_line lists) ≡ given_lists p (index_line ∷ log)) (sym is) (one_more (index_of showing.copies.objects) same_list)

  by_next : (n : Next) → SteppedBy IsAnswered a (length log) x y s.round servers new line n → ShowsNext servers shown n → reverse (noted shown line lists) ≡ given_lists p (line ∷ log)
  by_next (next.Ask b asked) c shows =
      let first = asks_first round.0 a b asked (told_by c.given.answer) c.given.took (work 17 log) (subst (λ (l : Line). KeepsToCrawl round.0 l (work 17 log)) c.is_line round.2) in
      let is_index : line ≡ Ask a b request.Index (told_by c.given.answer) c.given.took = c.is_line ∙ ap (λ (r : Request). Ask a b r (told_by c.given.answer) c.given.took) first.0 in
      let within : b.0 < length servers = rw (served.few, first.2) (bricks (ended 17 log) round.0 round.1) in
      let there = some_server servers b.0 within in
      subst (λ (l : Line). reverse (noted shown l lists) ≡ given_lists p (l ∷ log)) (sym is_index) (asked_noted b (told_by c.given.answer) c.given.took first.1 there.0 there.1 (shows there.0 there.1))
  by_next (next.End said) c none =
      let ends = subst (λ (l : Line). KeepsToCrawl round.0 l (work 17 log)) c.is_line round.2 in
      subst (λ (l : Line). reverse (noted shown l lists) ≡ given_lists p (l ∷ log)) (sym c.is_line)
      (subst (λ (o : Option (List (Gfid × What))). reverse (noted o (End a said) lists) ≡ given_lists p (End a said ∷ log)) (sym none) (was ∙ sym (given_end p a said log ends.first ends.older who ends.begun)))
  by_next (next.HealBegin g kind) c none = absurd (none_due (work 17 log) (g, kind) (subst (λ (l : Line). KeepsToCrawl round.0 l (work 17 log)) c.is_line round.2))
  by_next (next.HealEnd g kind said) c none = absurd (none_due (work 17 log) (g, kind) (subst (λ (l : Line). KeepsToCrawl round.0 l (work 17 log)) c.is_line round.2))
  by_next (next.Begin change) c none = absurd c

  pub lists_noted : reverse (noted shown line lists) ≡ given_lists p (line ∷ log)
  lists_noted = by_next (next_of s.round) s.steps shows

-- ---- what is handed out
pub many_lists : (p : Plan) (log : List Line) → length (lists_by p log) ≡ ended 17 log
many_lists p [] = refl
many_lists p (End x said ∷ older) = by (x.0 == 17) (many_lists p older)
  where
    by : (own : Bool) → length (lists_by p older) ≡ ended 17 older → length (if own then given_by p (work 17 older) ∷ lists_by p older else lists_by p older) ≡ (if own then ended 17 older + 1 else ended 17 older)
    by true same = omega (arith, same)
    by false same = same
many_lists p (Ask a b asked told took ∷ older) = many_lists p older
many_lists p (Begin a change ∷ older) = many_lists p older
many_lists p (HealBegin a g kind ∷ older) = many_lists p older
many_lists p (HealEnd a g kind said ∷ older) = many_lists p older
many_lists p (Event event ∷ older) = many_lists p older

-- the round that is under way comes after those that have ended
before_present : (p : Plan) (w : Work) (lists : Lists) (k : ℕ) → k < length lists → from_oldest k (with_present p w lists) ≡ from_oldest k lists
before_present p [] lists k small = refl
before_present p (x ∷ w) lists k small = (let other : (k == length lists) ≡ false = grind (arith, nat_tests, small) in rw other refl)

-- past them there is none
past_oldest : (lists : Lists) (k : ℕ) → length lists ≤ k → from_oldest k lists ≡ None
past_oldest [] k past = refl
past_oldest (x ∷ lists) k past = (let other : (k == length lists) ≡ false = grind (arith, nat_tests, past) in rw other (past_oldest lists k (omega (arith, past))))

pub list_kept : (p : Plan) (log : List Line) (lists : Lists) (k : ℕ) → reverse lists ≡ given_lists p log → k < ended 17 log → slice_get lists k ≡ from_oldest k (lists_by p log)
list_kept p log lists k was small =
    sym (from_oldest-reverse lists k) ∙ ap (from_oldest k) was ∙ before_present p (work 17 log) (lists_by p log) k (omega (arith, small, many_lists p log))

pub list_there : (p : Plan) (log : List Line) (lists : Lists) → reverse lists ≡ given_lists p log → ended 17 log ≤ length lists
list_there p log lists was = at_least (work 17 log) (sym (length-reverse lists) ∙ ap length was)
  where
    at_least : (w : Work) → length lists ≡ length (with_present p w (lists_by p log)) → ended 17 log ≤ length lists
    at_least [] same = omega (arith, same, many_lists p log)
    at_least (x ∷ w) same = omega (arith, same, many_lists p log)

pub no_list : (p : Plan) (log : List Line) (k : ℕ) → ended 17 log ≤ k → from_oldest k (lists_by p log) ≡ None
no_list p log k past = past_oldest (lists_by p log) k (omega (arith, past, many_lists p log))

-- ---- as the volume keeps them
pub none_given : (p : Plan) (log : List Line) (lists : Lists) → lists ≡ [] → log ≡ [] → reverse lists ≡ given_lists p log
none_given p log lists none fresh = rw (none, fresh) refl

-- a client's line leaves them
pub lists_stay : (crawl : Bool) (p : Plan) (a : ℕ) (line : Line) (log added : List Line) (lists : Lists) → a ≤ 16 → is_of a line ≡ true → added ≡ line ∷ log → (crawl ≡ true → reverse lists ≡ given_lists p log) → crawl ≡ true → reverse lists ≡ given_lists p added
lists_stay crawl p a line log added lists client own grown was crawls =
    let apart : (a == 17) ≡ false = grind (arith, nat_tests, client) in
    was crawls ∙ sym (given_beside p line log (own_of a line own 17 ∙ apart)) ∙ ap (given_lists p) (sym grown)

-- and so does an event
pub lists_happen : (crawl : Bool) (p : Plan) (items added : List Line) (event : OfEvent) (lists : Lists) → added ≡ items ++ Event event ∷ [] → (crawl ≡ true → reverse lists ≡ given_lists p (reverse items)) → crawl ≡ true → reverse lists ≡ given_lists p (reverse added)
lists_happen crawl p items added event lists grown was crawls = rw (grown, reverse_push items (Event event)) (was crawls)

-- how many rounds have ended
pub crawler_ended : {crawl : Bool} (p : Plan) (log : List Line) (servers : List Serving) (healers : List Healer) (x : Healer) → AreHealers crawl p log servers healers → slice_get healers 0 ≡ Some x → x.ended ≡ ended 17 log
crawler_ended p log servers healers x k is = (k.each 0 x is).ended_is

-- what stands at a round's place
pub list_found : (p : Plan) (log : List Line) (lists : Lists) (k : ℕ) (list : Option (List (Gfid × What))) → reverse lists ≡ given_lists p log → k < ended 17 log → slice_get lists k ≡ Some list → list ≡ list_at k (lists_by p log)
list_found p log lists k list was small is = ap (option_and_then (λ (l : Option (List (Gfid × What))). l)) (sym is ∙ list_kept p log lists k was small)

pub none_at : (p : Plan) (log : List Line) (k : ℕ) → ended 17 log ≤ k → None ≡ list_at k (lists_by p log)
none_at p log k past = sym (ap (option_and_then (λ (l : Option (List (Gfid × What))). l)) (no_list p log k past))

-- ---- what a brick would give now
pub shows_none : (servers : List Serving) (n : Next) → ((b : BrickId) (asked : Request) → n ≡ next.Ask b asked → ⊥) → ShowsNext servers None n
shows_none servers (next.Ask b asked) other = absurd (other b asked refl)
shows_none servers n other = refl
