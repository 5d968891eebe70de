-- Under the lock of a name that is read before it is changed: what is heard, what goes with a request, and what is begun.
use Rattle.std.proofs.Common.{◌≡◌, ℕ, arith, Bool, true, false, List, Some, length, refl, ap, ◌∙◌, subst, if◌then◌else◌}
use Rattle.afr_base.specs.Bricks.{is_nothing, member}
use Rattle.afr_base.specs.declared.ids.ActorId.{ActorId}
use Rattle.afr_base.specs.declared.ids.BrickId.{BrickId}
use Rattle.afr_base.specs.declared.ids.Gfid.{Gfid}
use Rattle.afr_base.specs.declared.ids.Kind.TheVariants.{Names}
use Rattle.afr_base.specs.declared.ids.NameId.{NameId}
use Rattle.afr_base.specs.declared.ids.Shape.{Shape}
use Rattle.afr_choice.specs.Verdict.{good_copies}
use Rattle.afr_choice.specs.declared.looked.Looked.{Looked}
use Rattle.afr_lines.specs.Told.{told_by}
use Rattle.afr_lines.specs.Work.{Work}
use Rattle.afr_lines.specs.declared.answer.Answer.{Answer}
use Rattle.afr_lines.specs.declared.answer.Answer.TheVariants as answer
use Rattle.afr_lines.specs.declared.line.Line.{Line}
use Rattle.afr_lines.specs.declared.line.Next.{Next}
use Rattle.afr_lines.specs.declared.line.Next.TheVariants as next
use Rattle.afr_lines.specs.declared.reply.Reply.{Reply}
use Rattle.afr_lines.specs.declared.request.Request.{Request}
use Rattle.afr_lines.specs.declared.request.Request.TheVariants as request_of
use Rattle.afr_object.specs.Tables.{object_of}
use Rattle.afr_object.specs.declared.change.Change.{Change}
use Rattle.afr_object.specs.declared.change.Load.{Load}
use Rattle.afr_object.specs.declared.entry.Entry.{Entry}
use Rattle.afr_plan.specs.declared.plan.Plan.{Plan}
use Rattle.afr_model.specs.Following.{Follows}
use Rattle.afr_model.specs.Showing.{At, looked_by, path_by, root_entry}
use Rattle.afr_model.specs.Tables.{Past}
use Rattle.afr_law.specs.ModelKinds.{Top}
use Rattle.afr_server.specs.Carried.{Brings}
use Rattle.afr_client_transaction.proofs.ReadLemmas.{begins_at}
use Rattle.afr_client_transaction.specs.Made.{attempted}
use Rattle.afr_client_transaction.specs.Outcome.{reply_of}
use Rattle.afr_client_transaction.specs.Progress.{CarriesAt, TransactionProgress, asks, is_beginning, is_over, next_at, numbered, request_at}
use Rattle.afr_client_transaction.specs.declared.stage.Stage.{Stage}
use Rattle.afr_client_transaction.specs.declared.stage.Stage.TheVariants.{Locking, Looking, Beginning, Preparing, Applying, Posting, Closing}
use Rattle.afr_client_entry.specs.Entry.{HasReader, fits_stage}
use Rattle.afr_client_entry.specs.declared.refusal.Refusal.{Refusal}
use Rattle.afr_client_entry.specs.declared.stage.Found.TheVariants.{Unread, Fits, Refused}
use Rattle.afr_law_client.specs.Tells.{During, Tells}
use Rattle.afr_law_client.specs.Read.Lines.{CanAnswer, is_look}
use Rattle.afr_law_client.proofs.Read.ReadsMore.{asks_same}
use Rattle.afr_law_client.specs.Write.WriteTelling.{CanTell}
use Rattle.afr_law_client.proofs.Write.Goes.{asked_stage}
use Rattle.afr_law_client.specs.Entry.EntryTelling.{CanHearUnder, CanName}
use Rattle.afr_law_client.proofs.Entry.Names.{name_told}
use Rattle.afr_law_client.proofs.Entry.Removing.{shown}
use Rattle.afr_law_heard.specs.Hears.{IsHeard}
use Rattle.afr_law_heard.proofs.Bringing.{stage_brings}
use Rattle.afr_law_heard.proofs.Hearing.{stage_object}
use Rattle.afr_law_heard.proofs.Seen.{good_in}
use Rattle.afr_law_heard.proofs.SomeLines.{AreIn}
use Rattle.afr_law_heard.proofs.Stood.{path_in}
use Rattle.afr_law_heard.proofs.Told.{IsAtObject, IsThere, can_answer, can_tell}
use Rattle.afr_law_heard.proofs.Entry.Elsewhere.{elsewhere}

-- once the name was read, it looks no more
looks_no_more : (stage : Stage) (t : TransactionProgress) → fits_stage Fits stage ≡ true → is_beginning stage ≡ false → is_look (request_at stage t) ≡ false
looks_no_more Locking t h e = absurd (cc h)
looks_no_more Looking t h e = absurd (cc h)
looks_no_more Beginning t h e = absurd (cc e)
looks_no_more Preparing t h e = refl
looks_no_more Applying t h e = refl
looks_no_more Posting t h e = refl
looks_no_more Closing t h e = refl

fits_too : (why : Refusal) (stage : Stage) → fits_stage (Refused why) stage ≡ true → fits_stage Fits stage ≡ true
fits_too why Closing h = refl
fits_too why Locking h = absurd (cc h)
fits_too why Looking h = absurd (cc h)
fits_too why Beginning h = absurd (cc h)
fits_too why Preparing h = absurd (cc h)
fits_too why Applying h = absurd (cc h)
fits_too why Posting h = absurd (cc h)

at_any : (object : Entry) (request : Request) → is_look request ≡ false → IsAtObject object request
at_any object (request_of.Look g) e = absurd (cc e)
at_any object request e = tt

-- ---- what is heard
module _ (p : Plan) (log : List Line) (a : ActorId) (b : BrickId) (request : Request) (heard : Answer) (took : Bool) (h : IsHeard p log a b request heard took) where
  -- what isn't a look shows nothing
  pub told_without : (dir : Entry) → is_look request ≡ false → CanTell dir request (told_by heard)
  told_without dir free = let k = can_tell p log a b heard took root_entry (Top refl refl) request h (at_any root_entry request free) in record { fits = k.fits; phase = k.phase; shows = λ view seen look. absurd (cc (look, free)) }

  by_stage : (copy : BrickId) (stage : Stage) (dir : Entry) → (is_beginning stage ≡ true → CanName p dir b.0 request log heard) → (is_beginning stage ≡ false → CanTell dir request (told_by heard)) → CanHearUnder (Unread copy) stage p dir b.0 request log heard
  by_stage copy Locking dir name other = other refl
  by_stage copy Looking dir name other = other refl
  by_stage copy Beginning dir name other = name refl
  by_stage copy Preparing dir name other = other refl
  by_stage copy Applying dir name other = other refl
  by_stage copy Posting dir name other = other refl
  by_stage copy Closing dir name other = other refl

  -- where the name was read, and where its reading rules the change out
  pub fits_hears : (dir : Entry) (t : TransactionProgress) → fits_stage Fits t.stage ≡ true → next_at t.stage (length log) t ≡ next.Ask b request → CanTell dir request (told_by heard)
  fits_hears dir t in_turn e =
      let at_stage = asked_stage t.stage (length log) t b request e in
      told_without dir (subst (λ (r : Request). is_look r ≡ false) at_stage.1 (looks_no_more t.stage t in_turn at_stage.0))

  pub refused_hears : (dir : Entry) (t : TransactionProgress) (why : Refusal) → fits_stage (Refused why) t.stage ≡ true → (said : Reply) → (if is_over t.stage t then next.End said else next_at t.stage (length log) t) ≡ next.Ask b request → CanTell dir request (told_by heard)
  refused_hears dir t why in_turn said e = go (is_over t.stage t) e
    where
      go : (x : Bool) → (if x then next.End said else next_at t.stage (length log) t) ≡ next.Ask b request → CanTell dir request (told_by heard)
      go true e = absurd (cc e)
      go false e = fits_hears dir t (fits_too why t.stage in_turn) e

  -- until it is read, by these lines, of which the path has led to the directory
  module _ (crawl : Bool) (follows : Follows crawl p log) (lines : Work) (is : AreIn log lines) (dir : Entry) (name : NameId) (t : TransactionProgress) (of : object_of t.change ≡ dir.gfid) (tells : Tells p lines t) (read : ℕ) (led : path_by p lines ≡ At read dir) (copy : BrickId) (reads : HasReader t (Unread copy)) where
    abbrev asked : Request
    asked = request_of.ReadName dir.gfid name

    good : is_beginning t.stage ≡ true → member (good_copies p.shape (looked_by dir.gfid lines) Names) copy.0 ≡ true
    good f =
        let d : During Beginning p.shape t lines = subst (λ (stage : Stage). During stage p.shape t lines) (begins_at t.stage f) tells.during in
        let by_lines : t.register.looked ≡ looked_by dir.gfid lines = d.looks.shows ∙ ap (λ (g : Gfid). looked_by g lines) of in
        subst (λ (x : Looked). member (good_copies p.shape x Names) copy.0 ≡ true) by_lines (subst (λ (x : Shape). member (good_copies x t.register.looked Names) copy.0 ≡ true) tells.shape_is (reads f))

    named : CanAnswer p copy.0 asked log heard → CanName p dir copy.0 asked log heard
    named can = record {
      answers = can;
      elsewhere = λ entry e.
          elsewhere p log h.few (omega (arith, h.short)) h.honest h.lawful crawl follows copy.0 dir.gfid name entry
          (shown p copy.0 dir.gfid name log entry (name_told p copy.0 dir.gfid name log (answer.Entry (Some entry)) (subst (λ (x : Answer). CanAnswer p copy.0 asked log x) e can)));
    }

    pub unread_hears : (if is_beginning t.stage then next.Ask copy asked else next_at t.stage (length log) t) ≡ next.Ask b request → CanHearUnder (Unread copy) t.stage p dir b.0 request log heard
    unread_hears e = by_stage copy t.stage dir (λ f. name_read f) (λ f. other f)
      where
        pick : (x : Bool) → is_beginning t.stage ≡ x → (if x then next.Ask copy asked else next_at t.stage (length log) t) ≡ next.Ask b request
        pick x f = subst (λ (y : Bool). (if y then next.Ask copy asked else next_at t.stage (length log) t) ≡ next.Ask b request) f e

        name_read : is_beginning t.stage ≡ true → CanName p dir b.0 request log heard
        name_read f =
            let same = pick true f in
            let there : IsThere p log copy.0 asked = record { free = refl; has = good_in p log lines is dir.gfid Names copy.0 h.honest (good f) } in
            let can = can_answer p log a b request heard took h (asks_same (λ (x : BrickId) (r : Request). IsThere p log x.0 r) copy b asked request same there) in
            asks_same (λ (x : BrickId) (r : Request). CanAnswer p x.0 r log heard → CanName p dir x.0 r log heard) copy b asked request same (λ k. named k) can

        other : is_beginning t.stage ≡ false → CanTell dir request (told_by heard)
        other f =
            let at_stage = asked_stage t.stage (length log) t b request (pick false f) in
            can_tell p log a b heard took dir (path_in p log lines is read dir led) request h (subst (IsAtObject dir) at_stage.1 (stage_object t.stage t dir of))

-- ---- what goes with a request
module _ (p : Plan) (log : List Line) (lines : Work) (is : AreIn log lines) (b : BrickId) (request : Request) (past : Past) (t : TransactionProgress) (carried : Load) (brought : CarriesAt t.stage carried (attempted t)) where
  pub goes_brings : Tells p lines t → next_at t.stage (length log) t ≡ next.Ask b request → Brings request carried log past
  goes_brings tells e =
      subst (λ (r : Request). Brings r carried log past) (asked_stage t.stage (length log) t b request e).1 (stage_brings p log lines t past is tells.sets t.stage tells.during carried brought)

  -- nothing has to go with a read of the name
  pub unread_brings : Tells p lines t → (copy : BrickId) (dir : Gfid) (name : NameId) → (if is_beginning t.stage then next.Ask copy (request_of.ReadName dir name) else next_at t.stage (length log) t) ≡ next.Ask b request → Brings request carried log past
  unread_brings tells copy dir name e = go (is_beginning t.stage) e
    where
      go : (x : Bool) → (if x then next.Ask copy (request_of.ReadName dir name) else next_at t.stage (length log) t) ≡ next.Ask b request → Brings request carried log past
      go true e = asks_same (λ (x : BrickId) (r : Request). Brings r carried log past) copy b (request_of.ReadName dir name) request e tt
      go false e = goes_brings tells e

  -- a change that was given up asks for unlocks alone
  unlock_brings : (why : Refusal) (stage : Stage) → fits_stage (Refused why) stage ≡ true → Brings (request_at stage t) carried log past
  unlock_brings why Closing h = tt
  unlock_brings why stage h = absurd (cc h)

  pub refused_brings : (why : Refusal) → fits_stage (Refused why) t.stage ≡ true → (said : Reply) → (if is_over t.stage t then next.End said else next_at t.stage (length log) t) ≡ next.Ask b request → Brings request carried log past
  refused_brings why in_turn said e = go (is_over t.stage t) e
    where
      go : (x : Bool) → (if x then next.End said else next_at t.stage (length log) t) ≡ next.Ask b request → Brings request carried log past
      go true e = absurd (cc e)
      go false e = subst (λ (r : Request). Brings r carried log past) (asked_stage t.stage (length log) t b request e).1 (unlock_brings why t.stage in_turn)

-- ---- what is begun
abbrev pub begun_in : Next → Change → Change
begun_in (next.Begin change) other = change
begun_in line other = other

-- what is so of the change with its number is so of what is begun
module _ (P : Change → Type 0) (at : ℕ) (t : TransactionProgress) (change : Change) (of_change : P (numbered at t.change)) where
  stage_begins : (stage : Stage) → next_at stage at t ≡ next.Begin change → P change
  stage_begins Locking e = absurd (cc e)
  stage_begins Looking e = absurd (cc e)
  stage_begins Beginning e = subst P (ap (λ (line : Next). begun_in line t.change) e) of_change
  stage_begins Preparing e = absurd (cc e)
  stage_begins Applying e = absurd (cc e)
  stage_begins Posting e = absurd (cc e)
  stage_begins Closing e = absurd (go (is_nothing t.register.held) e)
    where
      go : (x : Bool) → (if x then next.End (reply_of t.change t.register) else asks Closing t) ≡ next.Begin change → ⊥
      go true e = cc e
      go false e = cc e

  pub fits_begins : next_at t.stage at t ≡ next.Begin change → P change
  fits_begins e = stage_begins t.stage e

  pub unread_begins : (copy : BrickId) (asked : Request) → (if is_beginning t.stage then next.Ask copy asked else next_at t.stage at t) ≡ next.Begin change → P change
  unread_begins copy asked e = go (is_beginning t.stage) e
    where
      go : (x : Bool) → (if x then next.Ask copy asked else next_at t.stage at t) ≡ next.Begin change → P change
      go true e = absurd (cc e)
      go false e = stage_begins t.stage e

  pub refused_begins : (said : Reply) → (if is_over t.stage t then next.End said else next_at t.stage at t) ≡ next.Begin change → P change
  refused_begins said e = go (is_over t.stage t) e
    where
      go : (x : Bool) → (if x then next.End said else next_at t.stage at t) ≡ next.Begin change → P change
      go true e = absurd (cc e)
      go false e = stage_begins t.stage e
