-- What a heal holds after an answer: what its reads showed, the newest one too.
use Rattle.std.proofs.Common.{◌≡◌, ℕ, ◌<◌, ◌||◌, ◌==◌, not, arith, nat_le, take, drop, Bool, true, false, true≢false, List, ◌∷◌, Option, None, Some, length, refl, sym, ap, ◌∙◌, subst, inl, inr, if◌then◌else◌}
use Rattle.std.proofs.lemmas.Bool.{eqb-true}
use Rattle.std.proofs.lemmas.Bool.Decides.{eqb_tells, nat_tests}
use Rattle.std.specs.Prelude.{slice_set}
use Rattle.afr_base.specs.Bricks.{added_if, member}
use Rattle.afr_base.specs.declared.ids.ActorId.{ActorId}
use Rattle.afr_base.specs.declared.ids.BrickId.{BrickId}
use Rattle.afr_base.specs.declared.ids.Gfid.{Gfid}
use Rattle.afr_base.specs.declared.ids.Kind.{Kind}
use Rattle.afr_base.specs.declared.ids.Kind.TheVariants as kind_of
use Rattle.afr_discipline.specs.Notes.{asked_at, noted_ask}
use Rattle.afr_discipline.specs.Stands.{heal_part_of, reads_of, seen_as, step_of}
use Rattle.afr_discipline.specs.declared.register.HealPart.{HealPart as StoredPhase}
use Rattle.afr_discipline.specs.declared.register.Register.{Register}
use Rattle.afr_discipline.specs.declared.register.Step.TheVariants as step
use Rattle.afr_heal.proofs.Finding.{turn_low, turn_new, turn_set}
use Rattle.afr_heal.proofs.Parts.{both}
use Rattle.afr_heal.specs.Requests.{read_in}
use Rattle.afr_heal.specs.Standing.{AfterLooks}
use Rattle.afr_law_heal.proofs.Heard.Asks.{HealAsked, OfFirst, OfLock, OfLook, OfMend, OfPre, OfRead, OfSettle, OfUnlock, asked_of}
use Rattle.afr_law_heal.proofs.Heard.Heard.{Gave, NotedIn, PlainIn, Read, Refused, asked_here, asked_list, content_given, given_none, heard_plain, is_plain, kept_plain, plain_left, read_left, read_told, unasked}
use Rattle.afr_law_heal.proofs.Heard.Showing.{bytes_any, held_now, line_now, set_here, set_none, set_there, shown_set, still_held, still_shown}
use Rattle.afr_law_heal.specs.Heard.Hears.{IsHeardInHeal}
use Rattle.afr_law_heal.specs.Heard.Holds.{AreShown, HoldsMore, HoldsRead, HoldsReads, NothingRead}
use Rattle.afr_law.proofs.Heals.Conditions.{asked_now}
use Rattle.afr_lines.specs.Log.{from_oldest}
use Rattle.afr_lines.specs.Told.{told_by}
use Rattle.afr_lines.specs.declared.answer.Answer.{Answer}
use Rattle.afr_lines.specs.declared.answer.Answer.TheVariants as answer
use Rattle.afr_lines.specs.declared.answer.Told.{Told}
use Rattle.afr_lines.specs.declared.answer.Told.TheVariants as as_told
use Rattle.afr_lines.specs.declared.line.Line.{Line}
use Rattle.afr_lines.specs.declared.line.Line.TheVariants.{Ask}
use Rattle.afr_lines.specs.declared.request.Request.{Request}
use Rattle.afr_lines.specs.declared.request.Request.TheVariants as request_of
use Rattle.afr_model.specs.Honest.{answer_by}
use Rattle.afr_model.specs.Tables.{attrs_in, attrs_shown, bytes_shown, content_in, held_before, holds, names_in, names_shown}
use Rattle.afr_model_moves.specs.Keeps.{keeps_in}
use Rattle.afr_model_moves.specs.Note.{fails, given, is_given}
use Rattle.afr_model_moves.specs.Register.{Exact, Finish, HealPart, Looks, Opening, Piece, Reads, asked_in, is_opening, over, rank, same_step, span}
use Rattle.afr_model_moves.specs.Steps.{reads_at, turn}
use Rattle.afr_object.specs.Tables.{Table, copy_at}
use Rattle.afr_object.specs.Object.{Object}
use Rattle.afr_plan.specs.declared.plan.Plan.{Plan}
use Rattle.afr_heal_machine.specs.Contents.{kept}
use Rattle.afr_heal_machine.specs.Healing.{Healing, IsHealing, answered}
use Rattle.afr_heal_machine.specs.Source.{is_found}
use Rattle.afr_heal_machine.specs.declared.contents.ReadSoFar.{ReadSoFar}
use Rattle.afr_heal_machine.specs.declared.contents.ReadSoFar.TheVariants.{Nothing, Bytes, Attrs, Names}

-- ---- before the reads
-- up to the looks no brick was asked for a read
unasked_low : (r : Exact) → nat_le (rank r.step) 7 ≡ true → (x : ℕ) → asked_in r Reads x ≡ false
unasked_low r low x = (let e : (rank r.step == 8) ≡ false = grind (arith, nat_tests, low) in rw e refl)

-- so nothing was read
none_low : (r : Exact) → nat_le (rank r.step) 7 ≡ true → ((x : ℕ) → nat_le (rank r.step) 8 ≡ true → asked_in r Reads x ≡ false → r.reads x ≡ None) → (x : ℕ) → r.reads x ≡ None
none_low r low unread x = unread x (grind (arith, nat_tests, low)) (unasked_low r low x)

-- the first looks are over
found_looks : (n : ℕ) (r : Exact) → is_found n r ≡ true → ((rank r.step == 7) ≡ true) × (is_opening r.part ≡ true)
found_looks n r h = (
    let three = both _ (over n r.law.held r.asked) h in
    let two = both _ (is_opening r.part) three.0 in
    ((both (not r.broken) (same_step r.step Looks) two.0).1, two.1)
    )

-- ---- a request that reads nothing
module _ (r new : Exact) (same : new.reads ≡ r.reads) (opening : is_opening new.part ≡ true → is_opening r.part ≡ true) (contents : ReadSoFar) where
  unread_plain : (kind : Kind) → ((kind ≡ kind_of.Bytes → ⊥) → nat_le (rank new.step) 8 ≡ true → nat_le (rank r.step) 7 ≡ true) → NothingRead kind r contents → NothingRead kind new contents
  unread_plain kind_of.Bytes early k = λ first. (λ x. ap (λ (f : ℕ → Option ℕ). f x) same ∙ (k (opening first)).0 x, (k (opening first)).1)
  unread_plain kind_of.Attrs early k = λ x low asked. ap (λ (f : ℕ → Option ℕ). f x) same ∙ none_low r (early (λ e. cc e) low) k x
  unread_plain kind_of.Names early k = λ x low asked. ap (λ (f : ℕ → Option ℕ). f x) same ∙ none_low r (early (λ e. cc e) low) k x

  -- where the first looks are over, any copy may be the source: nothing was read
  held_found : (p : Plan) (log : List Line) (kind : Kind) (reads : List (Option ℕ)) (s chosen n : ℕ) → r.reads ≡ reads_of reads → ((kind ≡ kind_of.Bytes → ⊥) → nat_le (rank new.step) 8 ≡ true → nat_le (rank r.step) 7 ≡ true)
      → is_found n new ≡ true → NothingRead kind r contents → HoldsReads p log kind (reads_of reads s) reads contents → HoldsReads p log kind (reads_of reads chosen) reads contents
  held_found p log kind_of.Bytes reads s chosen n are early found k h =
      let none = k (opening (found_looks n new found).1) in
      let read : reads_of reads chosen ≡ None = ap (λ (f : ℕ → Option ℕ). f chosen) (sym are) ∙ none.0 chosen in
      let nothing : HoldsReads p log kind_of.Bytes None reads contents = subst (HoldsReads p log kind_of.Bytes None reads) (sym none.1) tt in
      subst (λ (x : Option ℕ). HoldsReads p log kind_of.Bytes x reads contents) (sym read) nothing
  held_found p log kind_of.Attrs reads s chosen n are early found k h =
      let seven = (found_looks n new found).0 in
      let none = none_low r (early (λ e. cc e) (grind (arith, nat_tests, seven))) k in
      let at : (x : ℕ) → reads_of reads x ≡ None = λ x. ap (λ (f : ℕ → Option ℕ). f x) (sym are) ∙ none x in
      let was : HoldsReads p log kind_of.Attrs None reads contents = subst (λ (x : Option ℕ). HoldsReads p log kind_of.Attrs x reads contents) (at s) h in
      subst (λ (x : Option ℕ). HoldsReads p log kind_of.Attrs x reads contents) (sym (at chosen)) was
  held_found p log kind_of.Names reads s chosen n are early found k h = go contents h
    where
      go : (c : ReadSoFar) → HoldsReads p log kind_of.Names (reads_of reads s) reads c → HoldsReads p log kind_of.Names (reads_of reads chosen) reads c
      go (Names read) h = h
      go Nothing h = absurd h
      go (Bytes bytes) h = absurd h
      go (Attrs attrs) h = absurd h

-- ---- a read
-- what the newest line showed
module _ (p : Plan) (log : List Line) (a : ActorId) (b : BrickId) (g : Gfid) (told : Told) (took : Bool) (o : Object) (there : copy_at g (holds p log b.0) ≡ Some o) where
  bytes_newest : (at len : ℕ) → take len (drop at o.content) ≡ bytes_shown (held_before p (Ask a b (request_of.ReadBytes g at len) told took ∷ log)) (length log) (from_oldest (length log) (Ask a b (request_of.ReadBytes g at len) told took ∷ log))
  bytes_newest at len =
      let line : Line = Ask a b (request_of.ReadBytes g at len) told took in
      sym (ap (bytes_shown (held_before p (line ∷ log)) (length log)) (line_now p line log) ∙ ap (λ (t : Table). take len (drop at (content_in (copy_at g t)))) (held_now p line log b.0) ∙ ap (λ (c : Option Object). take len (drop at (content_in c))) there)

  attrs_newest : o.attrs ≡ attrs_shown (held_before p (Ask a b (request_of.ReadAttrs g) told took ∷ log)) (length log) (from_oldest (length log) (Ask a b (request_of.ReadAttrs g) told took ∷ log))
  attrs_newest =
      let line : Line = Ask a b (request_of.ReadAttrs g) told took in
      sym (ap (attrs_shown (held_before p (line ∷ log)) (length log)) (line_now p line log) ∙ ap (λ (t : Table). attrs_in (copy_at g t)) (held_now p line log b.0) ∙ ap attrs_in there)

  names_newest : o.names ≡ names_shown (held_before p (Ask a b (request_of.List g) told took ∷ log)) (length log) (from_oldest (length log) (Ask a b (request_of.List g) told took ∷ log))
  names_newest =
      let line : Line = Ask a b (request_of.List g) told took in
      sym (ap (names_shown (held_before p (line ∷ log)) (length log)) (line_now p line log) ∙ ap (λ (t : Table). names_in (copy_at g t)) (held_now p line log b.0) ∙ ap names_in there)

module _ (p : Plan) (log : List Line) (a : ActorId) (b : ℕ) (heard : Answer) (took : Bool) (old new : Register) (noted : NotedIn old (length log) b (told_by heard) new) (five : length old.reads ≡ 5) (low_brick : b < 5) where
  abbrev line : Request → Line
  line request = Ask a (record { 0 = b }) request (told_by heard) took

  inside_five : b < length old.reads
  inside_five = omega (arith, five, low_brick)

  read_here : reads_of new.reads b ≡ given (told_by heard) (length log)
  read_here = ap (λ (xs : List (Option ℕ)). reads_of xs b) noted.reads_are ∙ set_here old.reads b (given (told_by heard) (length log)) inside_five

  read_given : told_by heard ≡ as_told.Given → reads_of new.reads b ≡ Some (length log)
  read_given told = read_here ∙ ap (λ (x : Told). given x (length log)) told

  read_none : is_given (told_by heard) ≡ false → reads_of new.reads b ≡ None
  read_none refused = read_here ∙ given_none (told_by heard) (length log) refused

  -- of attributes and names: a brick that isn't asked yet has no read
  unread_noted : nat_le (rank (step_of old.step)) 8 ≡ true → ((x : ℕ) → nat_le (rank (step_of old.step)) 8 ≡ true → asked_in (seen_as old) Reads x ≡ false → reads_of old.reads x ≡ None)
      → (x : ℕ) → asked_in (seen_as new) Reads x ≡ false → reads_of new.reads x ≡ None
  unread_noted low was x fresh = elim (eqb_tells x b) [
    | inl w ↦ subst (λ (y : ℕ). reads_of new.reads y ≡ None) (sym w.1) (here (is_given (told_by heard)) refl (subst (λ (y : ℕ). member (added_if flag b before) y ≡ false) w.1 unasked_new))
    | inr w ↦ ap (λ (xs : List (Option ℕ)). reads_of xs x) noted.reads_are ∙ set_there old.reads b x (given (told_by heard) (length log)) w.1 ∙ was x low (asked_list old step.Reads x ∙ unasked flag b x before unasked_new)
  ]
    where
      flag : Bool
      flag = not (not (is_given (told_by heard) || fails (told_by heard)))

      before : List ℕ
      before = asked_at old step.Reads

      unasked_new : member (added_if flag b before) x ≡ false
      unasked_new = ap (λ (xs : List ℕ). member xs x) (sym noted.asked_are) ∙ ap (λ (f : ℕ → Bool). f x) (sym (asked_now (seen_as new) Reads (ap step_of noted.step_is))) ∙ fresh

      counted : (x y : Bool) → x ≡ true → not (not (x || y)) ≡ true
      counted true y e = refl
      counted false y e = absurd (cc e)

      here : (x : Bool) → is_given (told_by heard) ≡ x → member (added_if flag b before) b ≡ false → reads_of new.reads b ≡ None
      here true e m = absurd (true≢false (sym (asked_here b before) ∙ ap (λ (f : Bool). member (added_if f b before) b) (sym (counted (is_given (told_by heard)) (fails (told_by heard)) e)) ∙ m))
      here false e m = read_none e

  module _ (n : ℕ) (keeps : ℕ → Kind → Bool) (s : ℕ) (g : Gfid) where
    -- what is held after the read of a kind
    abbrev HeldAfter : Kind → ReadSoFar → Type 0
    HeldAfter kind contents = HoldsReads p (line (read_in (seen_as old) g kind) ∷ log) kind (reads_of new.reads s) new.reads (kept b heard contents)

    -- bytes are read in a piece alone, at the source
    bytes_at : (part : HealPart) → reads_at n keeps (seen_as old) s kind_of.Bytes part b ≡ true → (is_opening part ≡ false) × (b ≡ s)
    bytes_at Opening h = absurd (cc h)
    bytes_at Piece h = (refl, eqb-true b s h)
    bytes_at Finish h = absurd (cc h)

    bytes_held : (contents : ReadSoFar) → b ≡ s → HoldsReads p log kind_of.Bytes (reads_of old.reads s) old.reads contents
        → Read (λ o. answer.Bytes (take span (drop old.upto o.content))) (copy_at g (holds p log b)) heard → HeldAfter kind_of.Bytes contents
    bytes_held contents at h (Gave o there is told) =
        let whole : List Line = line (request_of.ReadBytes g old.upto span) ∷ log in
        let same : kept b heard contents ≡ Bytes (take span (drop old.upto o.content)) = ap (λ (x : Answer). kept b x contents) is in
        let value : HoldsReads p whole kind_of.Bytes (Some (length log)) new.reads (kept b heard contents) = (omega arith, same ∙ ap Bytes (bytes_newest p log a (record { 0 = b }) g (told_by heard) took o there old.upto span)) in
        subst (λ (x : Option ℕ). HoldsReads p whole kind_of.Bytes x new.reads (kept b heard contents)) (sym (ap (reads_of new.reads) (sym at) ∙ read_given told)) value
    bytes_held contents at h (Refused failed) =
        let whole : List Line = line (request_of.ReadBytes g old.upto span) ∷ log in
        let value : HoldsReads p whole kind_of.Bytes None new.reads (kept b heard contents) = subst (HoldsReads p whole kind_of.Bytes None new.reads) (sym (kept_plain b heard contents (content_given heard failed))) (bytes_any p log whole (reads_of old.reads s) old.reads new.reads contents h) in
        subst (λ (x : Option ℕ). HoldsReads p whole kind_of.Bytes x new.reads (kept b heard contents)) (sym (ap (reads_of new.reads) (sym at) ∙ read_none failed)) value

    attrs_held : (contents : ReadSoFar) → b ≡ s → reads_of old.reads b ≡ None → HoldsReads p log kind_of.Attrs (reads_of old.reads s) old.reads contents
        → Read (λ o. answer.Attrs o.attrs) (copy_at g (holds p log b)) heard → HeldAfter kind_of.Attrs contents
    attrs_held contents at none h (Gave o there is told) =
        let whole : List Line = line (request_of.ReadAttrs g) ∷ log in
        let same : kept b heard contents ≡ Attrs o.attrs = ap (λ (x : Answer). kept b x contents) is in
        let value : HoldsReads p whole kind_of.Attrs (Some (length log)) new.reads (kept b heard contents) = (omega arith, same ∙ ap Attrs (attrs_newest p log a (record { 0 = b }) g (told_by heard) took o there)) in
        subst (λ (x : Option ℕ). HoldsReads p whole kind_of.Attrs x new.reads (kept b heard contents)) (sym (ap (reads_of new.reads) (sym at) ∙ read_given told)) value
    attrs_held contents at none h (Refused failed) =
        let whole : List Line = line (request_of.ReadAttrs g) ∷ log in
        let nothing : contents ≡ Nothing = subst (λ (x : Option ℕ). HoldsReads p log kind_of.Attrs x old.reads contents) (ap (reads_of old.reads) (sym at) ∙ none) h in
        let value : HoldsReads p whole kind_of.Attrs None new.reads (kept b heard contents) = kept_plain b heard contents (content_given heard failed) ∙ nothing in
        subst (λ (x : Option ℕ). HoldsReads p whole kind_of.Attrs x new.reads (kept b heard contents)) (sym (ap (reads_of new.reads) (sym at) ∙ read_none failed)) value

    names_held : (contents : ReadSoFar) → reads_of old.reads b ≡ None → HoldsReads p log kind_of.Names (reads_of old.reads s) old.reads contents
        → Read (λ o. answer.Names o.names) (copy_at g (holds p log b)) heard → HeldAfter kind_of.Names contents
    names_held (Names read) none h (Gave o there is told) =
        let whole : List Line = line (request_of.List g) ∷ log in
        let reads : new.reads ≡ slice_set old.reads b (Some (length log)) = noted.reads_are ∙ ap (λ (x : Told). slice_set old.reads b (given x (length log))) told in
        let all : AreShown p whole (slice_set old.reads b (Some (length log))) (slice_set read.lists b (Some o.names)) =
        shown_set p whole old.reads read.lists b (length log) o.names (omega arith) (names_newest p log a (record { 0 = b }) g (told_by heard) took o there) (still_shown p (line (request_of.List g)) log old.reads read.lists h) in
        subst (λ (x : Answer). HoldsReads p whole kind_of.Names (reads_of new.reads s) new.reads (kept b x (Names read))) (sym is) (subst (λ (xs : List (Option ℕ)). AreShown p whole xs (slice_set read.lists b (Some o.names))) (sym reads) all)
    names_held (Names read) none h (Refused failed) =
        let whole : List Line = line (request_of.List g) ∷ log in
        let reads : new.reads ≡ old.reads = noted.reads_are ∙ ap (slice_set old.reads b) (given_none (told_by heard) (length log) failed) ∙ set_none old.reads b none in
        let all : AreShown p whole new.reads read.lists = subst (λ (xs : List (Option ℕ)). AreShown p whole xs read.lists) (sym reads) (still_shown p (line (request_of.List g)) log old.reads read.lists h) in
        subst (HoldsReads p whole kind_of.Names (reads_of new.reads s) new.reads) (sym (kept_plain b heard (Names read) (content_given heard failed))) all
    names_held Nothing none h said = absurd h
    names_held (Bytes bytes) none h said = absurd h
    names_held (Attrs attrs) none h said = absurd h

    -- of each kind
    read_held : (kind : Kind) (contents : ReadSoFar) → (told_by heard ≡ as_told.Given → heard ≡ answer_by None (read_in (seen_as old) g kind) (holds p log b) log) → reads_at n keeps (seen_as old) s kind (heal_part_of old.part) b ≡ true
        → asked_in (seen_as old) Reads b ≡ false → nat_le (rank (step_of old.step)) 8 ≡ true → HoldsReads p log kind (reads_of old.reads s) old.reads contents → NothingRead kind (seen_as old) contents
        → HeldAfter kind contents × NothingRead kind (seen_as new) (kept b heard contents)
    read_held kind_of.Bytes contents full set fresh low h k =
        let at = bytes_at (heal_part_of old.part) set in (
          bytes_held contents at.1 h (read_told (λ o. answer.Bytes (take span (drop old.upto o.content))) (copy_at g (holds p log b)) heard full),
          λ first. absurd (true≢false (sym first ∙ ap (λ (x : StoredPhase). is_opening (heal_part_of x)) noted.part_is ∙ at.0)),
        )
    read_held kind_of.Attrs contents full set fresh low h k = (
      attrs_held contents (eqb-true b s set) (k b low fresh) h (read_told (λ o. answer.Attrs o.attrs) (copy_at g (holds p log b)) heard full),
      λ x late asked. unread_noted low k x asked,
    )
    read_held kind_of.Names contents full set fresh low h k = (
      names_held contents (k b low fresh) h (read_told (λ o. answer.Names o.names) (copy_at g (holds p log b)) heard full),
      λ x late asked. unread_noted low k x asked,
    )

-- ---- any request
-- after a read the source stays
reads_on : (n : ℕ) (r : Exact) → r.step ≡ Reads → is_found n r ≡ false
reads_on n r at = go (is_found n r) refl
  where
    go : (x : Bool) → is_found n r ≡ x → is_found n r ≡ false
    go true e = absurd (true≢false (sym (found_looks n r e).0 ∙ ap (λ (k : ℕ). k == 7) (ap rank at)))
    go false e = e

source_stays : (x : Bool) (chosen source : BrickId) → x ≡ false → (if x then chosen else source) ≡ source
source_stays true chosen source e = absurd (cc e)
source_stays false chosen source e = refl

module _ (p : Plan) (m : Healing) (log : List Line) (a : ActorId) (b : ℕ) (heard : Answer) (took : Bool) (chosen : BrickId) (h : IsHealing m) (k : HoldsRead p log m) where
  abbrev r : Exact
  r = seen_as m.register

  -- the log and the register after the request
  abbrev longer : Request → List Line
  longer request = Ask a (record { 0 = b }) request (told_by heard) took ∷ log

  abbrev after : Request → Register
  after request = noted_ask m.register (length log) b request (told_by heard)

  abbrev Goal : Request → Type 0
  Goal request = HoldsRead p (longer request) (answered m b request heard (length log) chosen)

  more_plain : (request : Request) → (told_by heard ≡ as_told.Given → heard ≡ answer_by None request (holds p log b) log) → is_plain request ≡ true → HealAsked m.register.shape.n (keeps_in m.register.shape) r m.source.0 m.gfid m.kind b request → Goal request
  more_plain request full plain asked = record {
    shown = subst (λ (c : ReadSoFar). HoldsReads p (longer request) m.kind (reads_of (after request).reads source.0) (after request).reads c) (sym same)
        (subst (λ (xs : List (Option ℕ)). HoldsReads p (longer request) m.kind (reads_of xs source.0) xs m.contents) (sym left.reads_same)
        (still_held p (Ask a (record { 0 = b }) request (told_by heard) took) log m.kind (reads_of m.register.reads source.0) m.register.reads m.contents (by_source (is_found m.register.shape.n (seen_as (after request))) refl)));
    unread = subst (NothingRead m.kind (seen_as (after request))) (sym same) (unread_plain r (seen_as (after request)) (ap reads_of left.reads_same) left.opening m.contents m.kind left.early k.unread);
  }
    where
      source : BrickId
      source = if is_found m.register.shape.n (seen_as (after request)) then chosen else m.source

      left : PlainIn m.register (length log) b (told_by heard) m.kind (after request)
      left = plain_left m.register (length log) b (told_by heard) m.register.shape.n (keeps_in m.register.shape) m.source.0 m.gfid m.kind request plain asked

      same : kept b heard m.contents ≡ m.contents
      same = kept_plain b heard m.contents (heard_plain request heard (holds p log b) log plain full)

      by_source : (x : Bool) → is_found m.register.shape.n (seen_as (after request)) ≡ x → HoldsReads p log m.kind (reads_of m.register.reads (if x then chosen else m.source).0) m.register.reads m.contents
      by_source true e = held_found r (seen_as (after request)) (ap reads_of left.reads_same) left.opening m.contents p log m.kind m.register.reads m.source.0 chosen.0 m.register.shape.n refl left.early e k.unread k.shown
      by_source false e = k.shown

  more_read : b < 5 → (told_by heard ≡ as_told.Given → heard ≡ answer_by None (read_in r m.gfid m.kind) (holds p log b) log) → AfterLooks m.register.shape.n (keeps_in m.register.shape) r m.source.0 m.gfid m.kind
      → turn m.register.shape.n (keeps_in m.register.shape) r m.source.0 Reads b ≡ true → Goal (read_in r m.gfid m.kind)
  more_read low full going turns = record {
    shown = subst (λ (x : BrickId). HoldsReads p (longer request) m.kind (reads_of (after request).reads x.0) (after request).reads (kept b heard m.contents)) (sym (source_stays (is_found m.register.shape.n (seen_as (after request))) chosen m.source stays)) both_held.0;
    unread = both_held.1;
  }
    where
      request : Request
      request = read_in r m.gfid m.kind

      noted : NotedIn m.register (length log) b (told_by heard) (after (read_in r m.gfid m.kind))
      noted = read_left m.register (length log) b (told_by heard) r m.gfid m.kind going.base.inside

      stays : is_found m.register.shape.n (seen_as (after (read_in r m.gfid m.kind))) ≡ false
      stays = reads_on m.register.shape.n (seen_as (after (read_in r m.gfid m.kind))) (ap step_of noted.step_is)

      set : reads_at m.register.shape.n (keeps_in m.register.shape) r m.source.0 m.kind (heal_part_of m.register.part) b ≡ true
      set = subst (λ (kind : Kind). reads_at m.register.shape.n (keeps_in m.register.shape) r m.source.0 kind (heal_part_of m.register.part) b ≡ true) going.is_kind (turn_set m.register.shape.n (keeps_in m.register.shape) r m.source.0 Reads b turns)

      both_held : HoldsReads p (longer (read_in r m.gfid m.kind)) m.kind (reads_of (after (read_in r m.gfid m.kind)).reads m.source.0) (after (read_in r m.gfid m.kind)).reads (kept b heard m.contents)
          × NothingRead m.kind (seen_as (after (read_in r m.gfid m.kind))) (kept b heard m.contents)
      both_held = read_held p log a b heard took m.register (after (read_in r m.gfid m.kind)) noted h.heals.five.reads low m.register.shape.n (keeps_in m.register.shape) m.source.0 m.gfid m.kind m.contents full set
          (turn_new m.register.shape.n (keeps_in m.register.shape) r m.source.0 Reads b turns) (turn_low m.register.shape.n (keeps_in m.register.shape) r m.source.0 Reads b turns) k.shown k.unread

  by_request : (request : Request) → IsHeardInHeal p log a (record { 0 = b }) request heard took → HealAsked m.register.shape.n (keeps_in m.register.shape) r m.source.0 m.gfid m.kind b request → Goal request
  by_request request told (OfFirst area out is low) = more_plain request told.full (ap is_plain is) (OfFirst area out is low)
  by_request request told (OfLock domain area on is low) = more_plain request told.full (ap is_plain is) (OfLock domain area on is low)
  by_request request told (OfUnlock domain area on is) = more_plain request told.full (ap is_plain is) (OfUnlock domain area on is)
  by_request request told (OfLook on is low) = more_plain request told.full (ap is_plain is) (OfLook on is low)
  by_request request told (OfPre on is) = more_plain request told.full (ap is_plain is) (OfPre on is)
  by_request request told (OfMend going is passed turns) = more_plain request told.full (ap is_plain is) (OfMend going is passed turns)
  by_request request told (OfSettle less on is) = more_plain request told.full (ap is_plain is) (OfSettle less on is)
  by_request request told (OfRead going is turns) = subst Goal (sym is)
      (more_read (let below : b < p.shape.n = (told.may.1).0 in let few = told.few in omega (arith, below, few))
      (subst (λ (q : Request). told_by heard ≡ as_told.Given → heard ≡ answer_by None q (holds p log b) log) is told.full) going turns)

pub holds_more : HoldsMore
holds_more p m log a b request heard took chosen h e told k =
    by_request p m log a b heard took chosen h k request told (asked_of m.register.shape.n (keeps_in m.register.shape) (seen_as m.register) m.source.0 m.gfid m.kind b request h.heals.standing e)
