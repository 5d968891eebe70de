-- What an answer has for a heal, and what it leaves in the register of the discipline.
use Rattle.std.proofs.Common.{◌≡◌, ℕ, ◌⊎◌, ◌&&◌, ◌||◌, ◌==◌, not, arith, nat_le, Bool, true, false, true≢false, List, [], Option, None, Some, refl, sym, ap, ◌∙◌, subst, inl, inr, if◌then◌else◌}
use Rattle.std.proofs.lemmas.Bool.Decides.{nat_tests}
use Rattle.std.specs.Prelude.{slice_set}
use Rattle.afr_base.specs.Bricks.{added_if, member}
use Rattle.afr_base.specs.SetLemmas.{member_added_if}
use Rattle.afr_base.specs.declared.ids.Gfid.{Gfid}
use Rattle.afr_base.specs.declared.ids.Kind.{Kind}
use Rattle.afr_base.proofs.TestLemmas.{neither_second}
use Rattle.afr_base.specs.declared.ids.Kind.TheVariants as kind_of
use Rattle.afr_discipline.specs.Notes.{asked_at, broken_by, noted_ask, noted_inside, noted_outside, noted_steps, part_after, still_possible}
use Rattle.afr_discipline.specs.Stands.{heal_part_of, seen_as, step_of}
use Rattle.afr_discipline.specs.declared.register.HealPart.{HealPart}
use Rattle.afr_discipline.specs.declared.register.HealPart.TheVariants as heal_part
use Rattle.afr_discipline.specs.declared.register.Register.{Register}
use Rattle.afr_discipline.specs.declared.register.Step.{Step}
use Rattle.afr_discipline.specs.declared.register.Step.TheVariants as step
use Rattle.afr_heal.specs.Requests.{read_in}
use Rattle.afr_law_heal.proofs.Heard.Asks.{HealAsked, OfFirst, OfLock, OfLook, OfMend, OfPre, OfRead, OfSettle, OfUnlock}
use Rattle.afr_lines.specs.Overlap.{same_area}
use Rattle.afr_lines.specs.Told.{told_by}
use Rattle.afr_lines.specs.declared.answer.Answer.{Answer}
use Rattle.afr_lines.specs.declared.answer.Answer.TheVariants as answer
use Rattle.afr_lines.specs.declared.answer.Told.{Told}
use Rattle.afr_lines.specs.declared.answer.Told.TheVariants as as_told
use Rattle.afr_lines.specs.declared.line.Line.{Line}
use Rattle.afr_lines.specs.declared.request.Area.{Area}
use Rattle.afr_lines.specs.declared.request.Request.{Request}
use Rattle.afr_lines.specs.declared.request.Request.TheVariants as request_of
use Rattle.afr_model.specs.Honest.{answer_by, copy_answer}
use Rattle.afr_model_moves.specs.Note.{fails, given, is_given}
use Rattle.afr_model_moves.specs.Register as exact
use Rattle.afr_model_moves.specs.Register.{Exact, is_opening, rank, same_step, whole_area}
use Rattle.afr_model_moves.specs.Sets.{empty}
use Rattle.afr_object.specs.Repairs.{repaired}
use Rattle.afr_object.specs.Tables.{Table, copy_at, view_of}
use Rattle.afr_object.specs.Object.{Object}
use Rattle.afr_lines.specs.declared.lock.Domain.TheVariants.{Heal, Work}
use Rattle.afr_heal_machine.specs.Contents.{kept}
use Rattle.afr_heal_machine.specs.declared.contents.ReadSoFar.{ReadSoFar}

-- ---- answers
-- an answer that has what was read
abbrev pub is_content : Answer → Bool
is_content (answer.Bytes bytes) = true
is_content (answer.Attrs attrs) = true
is_content (answer.Names names) = true
is_content other = false

-- any other is not kept
pub kept_plain : (b : ℕ) (heard : Answer) (contents : ReadSoFar) → is_content heard ≡ false → kept b heard contents ≡ contents
kept_plain b (answer.Bytes bytes) contents h = absurd (cc h)
kept_plain b (answer.Attrs attrs) contents h = absurd (cc h)
kept_plain b (answer.Names names) contents h = absurd (cc h)
kept_plain b heard contents h = refl

given_is : (told : Told) → is_given told ≡ true → told ≡ as_told.Given
given_is as_told.Given h = refl
given_is told h = absurd (cc h)

pub given_none : (told : Told) (t : ℕ) → is_given told ≡ false → given told t ≡ None
given_none as_told.Given t h = absurd (cc h)
given_none told t h = refl

content_told : (heard : Answer) → is_content heard ≡ true → told_by heard ≡ as_told.Given
content_told (answer.Bytes bytes) h = refl
content_told (answer.Attrs attrs) h = refl
content_told (answer.Names names) h = refl
content_told heard h = absurd (cc h)

pub content_given : (heard : Answer) → is_given (told_by heard) ≡ false → is_content heard ≡ false
content_given heard h = go (is_content heard) refl
  where
    go : (x : Bool) → is_content heard ≡ x → is_content heard ≡ false
    go true e = absurd (true≢false (sym (ap is_given (content_told heard e)) ∙ h))
    go false e = e

-- a request of a heal that reads nothing
abbrev pub is_plain : Request → Bool
is_plain (request_of.Lock domain area) = true
is_plain (request_of.Unlock domain area) = true
is_plain (request_of.Look g) = true
is_plain (request_of.Pre g kind) = true
is_plain (request_of.Mend repair) = true
is_plain (request_of.Settle g kind less) = true
is_plain other = false

copy_plain : (f : Object → Answer) (c : Option Object) → ((o : Object) → is_content (f o) ≡ false) → is_content (copy_answer f c) ≡ false
copy_plain f None h = refl
copy_plain f (Some o) h = h o

plain_answer : (request : Request) → is_plain request ≡ true → (t : Table) (log : List Line) → is_content (answer_by None request t log) ≡ false
plain_answer (request_of.Lock domain area) h t log = refl
plain_answer (request_of.Unlock domain area) h t log = refl
plain_answer (request_of.Look g) h t log = copy_plain (λ o. answer.Seen (view_of o)) (copy_at g t) (λ o. refl)
plain_answer (request_of.Pre g kind) h t log = copy_plain (λ o. answer.Done) (copy_at g t) (λ o. refl)
plain_answer (request_of.Mend repair) h t log = copy_plain (λ o. answer.Done) (copy_at (repaired repair) t) (λ o. refl)
plain_answer (request_of.Settle g kind less) h t log = copy_plain (λ o. answer.Done) (copy_at g t) (λ o. refl)
plain_answer request h t log = absurd (cc h)

-- so nothing that was read is heard
pub heard_plain : (request : Request) (heard : Answer) (t : Table) (log : List Line) → is_plain request ≡ true → (told_by heard ≡ as_told.Given → heard ≡ answer_by None request t log) → is_content heard ≡ false
heard_plain request heard t log plain full = go (is_content heard) refl
  where
    go : (x : Bool) → is_content heard ≡ x → is_content heard ≡ false
    go true e = ap is_content (full (content_told heard e)) ∙ plain_answer request plain t log
    go false e = e

-- a read was given what the copy has, or it wasn't given
pub data Read (f : Object → Answer) (c : Option Object) (heard : Answer) : Type 0 where
  Gave : (o : Object) → c ≡ Some o → heard ≡ f o → told_by heard ≡ as_told.Given → Read f c heard
  Refused : is_given (told_by heard) ≡ false → Read f c heard

pub read_told : (f : Object → Answer) (c : Option Object) (heard : Answer) → (told_by heard ≡ as_told.Given → heard ≡ copy_answer f c) → Read f c heard
read_told f c heard full = go (is_given (told_by heard)) refl
  where
    by_copy : (copy : Option Object) → c ≡ copy → told_by heard ≡ as_told.Given → heard ≡ copy_answer f copy → Read f c heard
    by_copy None e told k = absurd (true≢false (sym (ap is_given told) ∙ ap (λ (x : Answer). is_given (told_by x)) k))
    by_copy (Some o) e told k = Gave o e k told

    go : (x : Bool) → is_given (told_by heard) ≡ x → Read f c heard
    go true e = (let told = given_is (told_by heard) e in by_copy c refl told (full told))
    go false e = Refused e

-- ---- registers
chosen_yes : (x : Bool) (p q : Register) → x ≡ true → (if x then p else q) ≡ p
chosen_yes true p q e = refl
chosen_yes false p q e = absurd (cc e)

chosen_no : (x : Bool) (p q : Register) → x ≡ false → (if x then p else q) ≡ q
chosen_no true p q e = absurd (cc e)
chosen_no false p q e = refl

-- the reads stay, no part becomes the opening again, and what comes before the reads came before them
pub record Plain (kind : Kind) (reads after_reads : List (Option ℕ)) (part after_part : HealPart) (at after_at : Step) : Type 0 where
  pub reads_same : after_reads ≡ reads
  pub opening : is_opening (heal_part_of after_part) ≡ true → is_opening (heal_part_of part) ≡ true
  pub early : (kind ≡ kind_of.Bytes → ⊥) → nat_le (rank (step_of after_at)) 8 ≡ true → nat_le (rank (step_of at)) 7 ≡ true

-- a read is noted at its brick, which was asked then
pub record Noted (p : Register) (t b : ℕ) (told : Told) (reads : List (Option ℕ)) (part : HealPart) (at : Step) (asked : List ℕ) : Type 0 where
  pub reads_are : reads ≡ slice_set p.reads b (given told t)
  pub part_is : part ≡ p.part
  pub step_is : at ≡ step.Reads
  pub asked_are : asked ≡ added_if (not (not (is_given told || fails told))) b (asked_at p step.Reads)

-- what comes before the looks comes up to them
up_to_looks : (k : ℕ) → nat_le k 6 ≡ true → nat_le k 7 ≡ true
up_to_looks k h = grind (arith, nat_tests, h)

module _ (p : Register) (t b : ℕ) (told : Told) where
  abbrev pub PlainIn : Kind → Register → Type 0
  PlainIn kind q = Plain kind p.reads q.reads p.part q.part p.step q.step

  abbrev pub NotedIn : Register → Type 0
  NotedIn q = Noted p t b told q.reads q.part q.step q.asked

  -- in a heal its own steps are noted
  inside : (request : Request) → p.inside ≡ true → noted_steps p t b request told ≡ record (noted_inside p t b request told) { possible = still_possible p b request; broken = p.broken || broken_by p request told }
  inside request e = chosen_yes p.inside _ _ e

  plain_inside : (kind : Kind) (request : Request) → p.inside ≡ true → PlainIn kind (noted_inside p t b request told) → PlainIn kind (noted_ask p t b request told)
  plain_inside kind request e k = subst (PlainIn kind) (sym (inside request e)) k

  -- a part that is the opening was it
  opening_before : (area : Area) → is_opening (heal_part_of (part_after p area)) ≡ true → is_opening (heal_part_of p.part) ≡ true
  opening_before area h = go (same_step (step_of p.step) exact.Unlocks) (same_area (whole_area p.object.0 kind_of.Bytes) area) h
    where
      go : (x y : Bool) → is_opening (heal_part_of (if x then (if y then heal_part.Finish else heal_part.Piece) else p.part)) ≡ true → is_opening (heal_part_of p.part) ≡ true
      go true true h = absurd (cc h)
      go true false h = absurd (cc h)
      go false y h = h

  -- a request that comes after the reads
  late : (kind : Kind) (request : Request) → p.inside ≡ true → (noted_inside p t b request told).reads ≡ p.reads → (noted_inside p t b request told).part ≡ p.part → nat_le (rank (step_of (noted_inside p t b request told).step)) 8 ≡ false
      → PlainIn kind (noted_ask p t b request told)
  late kind request on reads part far =
      plain_inside kind request on (record { reads_same = reads; opening = λ h. ap (λ (x : HealPart). is_opening (heal_part_of x)) (sym part) ∙ h; early = λ other h. absurd (true≢false (sym h ∙ far)) })

  module _ (n : ℕ) (keeps : ℕ → Kind → Bool) (s : ℕ) (g : Gfid) (kind : Kind) (request : Request) where
    low_before : (kind ≡ kind_of.Bytes) ⊎ (nat_le (rank (step_of p.step)) 6 ≡ true) → (kind ≡ kind_of.Bytes → ⊥) → nat_le (rank (step_of p.step)) 7 ≡ true
    low_before (inl bytes) other = absurd (other bytes)
    low_before (inr low) other = up_to_looks (rank (step_of p.step)) low

    as_request : (q : Request) → request ≡ q → PlainIn kind (noted_ask p t b q told) → PlainIn kind (noted_ask p t b request told)
    as_request q e k = subst (λ (x : Request). PlainIn kind (noted_ask p t b x told)) (sym e) k

    -- what reads nothing leaves the reads
    pub plain_left : is_plain request ≡ true → HealAsked n keeps (seen_as p) s g kind b request → PlainIn kind (noted_ask p t b request told)
    plain_left plain (OfFirst area out is low) =
        as_request (request_of.Lock Heal area) is
        (subst (PlainIn kind) (sym (chosen_no p.inside _ (noted_outside p b (request_of.Lock Heal area) told) out)) (record { reads_same = refl; opening = λ h. h; early = λ other h. up_to_looks (rank (step_of p.step)) low }))
    plain_left plain (OfLock Heal area on is low) =
        as_request (request_of.Lock Heal area) is (plain_inside kind (request_of.Lock Heal area) on (record { reads_same = refl; opening = λ h. h; early = λ other h. low_before low other }))
    plain_left plain (OfLock Work area on is low) =
        as_request (request_of.Lock Work area) is (plain_inside kind (request_of.Lock Work area) on (record { reads_same = refl; opening = λ h. opening_before area h; early = λ other h. low_before low other }))
    plain_left plain (OfUnlock Heal area on is) = as_request (request_of.Unlock Heal area) is (late kind (request_of.Unlock Heal area) on refl refl refl)
    plain_left plain (OfUnlock Work area on is) = as_request (request_of.Unlock Work area) is (late kind (request_of.Unlock Work area) on refl refl refl)
    plain_left plain (OfLook on is low) = as_request (request_of.Look g) is (plain_inside kind (request_of.Look g) on (record { reads_same = refl; opening = λ h. h; early = λ other h. low }))
    plain_left plain (OfPre on is) = as_request (request_of.Pre g kind) is (late kind (request_of.Pre g kind) on refl refl refl)
    plain_left plain (OfMend k is passed turns) = as_request (request_of.Mend _) is (late kind (request_of.Mend _) k.base.inside refl refl refl)
    plain_left plain (OfSettle less on is) = as_request (request_of.Settle g kind less) is (late kind (request_of.Settle g kind less) on refl refl refl)
    plain_left plain (OfRead k is turns) = absurd (true≢false (sym plain ∙ ap is_plain is ∙ no_read kind))
      where
        no_read : (of : Kind) → is_plain (read_in (seen_as p) g of) ≡ false
        no_read kind_of.Bytes = refl
        no_read kind_of.Attrs = refl
        no_read kind_of.Names = refl

  -- a read is noted
  pub read_left : (r : Exact) (g : Gfid) (kind : Kind) → p.inside ≡ true → NotedIn (noted_ask p t b (read_in r g kind) told)
  read_left r g kind_of.Bytes on = subst NotedIn (sym (inside (read_in r g kind_of.Bytes) on)) (record { reads_are = refl; part_is = refl; step_is = refl; asked_are = refl })
  read_left r g kind_of.Attrs on = subst NotedIn (sym (inside (read_in r g kind_of.Attrs) on)) (record { reads_are = refl; part_is = refl; step_is = refl; asked_are = refl })
  read_left r g kind_of.Names on = subst NotedIn (sym (inside (read_in r g kind_of.Names) on)) (record { reads_are = refl; part_is = refl; step_is = refl; asked_are = refl })

-- ---- who was asked
-- the bricks asked in a step, as a list and as a test
pub asked_list : (p : Register) (at : Step) (x : ℕ) → exact.asked_in (seen_as p) (step_of at) x ≡ member (asked_at p at) x
asked_list p at x = go (same_step (step_of p.step) (step_of at))
  where
    go : (same : Bool) → (if same then member p.asked else empty) x ≡ member (if same then p.asked else []) x
    go true = refl
    go false = refl

-- another brick than the one that is asked stays unasked
pub unasked : (flag : Bool) (b x : ℕ) (s : List ℕ) → member (added_if flag b s) x ≡ false → member s x ≡ false
unasked flag b x s h = neither_second (flag && (b == x)) (member s x) (sym (member_added_if flag b s x) ∙ h)

-- and that one is asked
pub asked_here : (b : ℕ) (s : List ℕ) → member (added_if true b s) b ≡ true
asked_here b s = member_added_if true b s b ∙ (let e : (b == b) ≡ true = grind (arith, nat_tests) in rw e refl)
