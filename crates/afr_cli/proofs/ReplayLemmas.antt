-- What a replay read and made, a text of it that was cut off, and what a source that tells its bytes is answered with.
use Rattle.std.proofs.Common.{◌≡◌, ◌≤◌, ◌⊎◌, ◌||◌, ℕ, Bool, true, false, List, Option, Some, length, inl, inr, nat_lt, arith}
use Rattle.std.specs.Prelude.{String}
use Rattle.std.specs.Global.{Global}
use Rattle.std.specs.Io.KnownBytes.{Appends, Consumes, IsAtEnd}
use Rattle.std.proofs.lemmas.Bool.{ltb-false}
use Rattle.afr_text.specs.Parts.{AppendsFront, CameMore}
use Rattle.afr_lines.specs.declared.line.Line.{Line}
use Rattle.afr_plan.specs.declared.plan.Plan.{Plan}
use Rattle.afr_plan_read.proofs.PlanLemmas.{same-plan}
use Rattle.afr_image.specs.declared.image.Image.{Image}
use Rattle.afr_image.specs.declared.image.ImageFault.{ImageFault}
use Rattle.afr_image.specs.Frame.{refusal}
use Rattle.afr_image.specs.Images.{IsImageOf}
use Rattle.afr_image.specs.Refusals.{IsRefused}
use Rattle.afr_image.proofs.ReadLemmas.{never_both, one_fault}
use Rattle.afr_order.specs.Replays.Made.{DiffersAt, HasSteps, Retraces}
use Rattle.afr_model.specs.Complete.{IsComplete}
use Rattle.afr_model.specs.ReportHealers.{report_of}
use Rattle.afr_volume.specs.State.{State, no_volume}
use Rattle.afr_words.specs.Forms.{AskFor}
use Rattle.afr_words.specs.declared.form.Form.{Form}
use Rattle.afr_words.specs.declared.form.Form.TheVariants as kind
use Rattle.afr_cli.specs.Forms.{text_of}
use Rattle.afr_cli.specs.Replay.{Differs, HasImageFault, IsDifference, IsFaultyImage, IsGivenImage, IsImagePlan, IsImageRefused, IsImageRefusal, Repeats, difference_line, image_refusal_line, replayed_plan}
use Rattle.afr_cli.specs.Statuses.{IsOver, IsPlanOf, IsText, StopsWriting}
use Rattle.afr_cli.proofs.ToldLemmas.{all_bytes, more_bytes}

-- ---- what was read
module _ (turns : ℕ) (left left' : Option (List ℕ)) (bytes seen : List ℕ) where
  pub is_given : (image : Image) → seen ≡ bytes → Consumes left left' bytes → IsAtEnd left' → length bytes ≤ 33554432 → IsImageOf (Some turns) seen image → IsGivenImage turns left left' image
  is_given image e came end few is = record { bytes = bytes; read = record { came = came; end = end; few = few }; spelled = rw (← e) is }

  pub is_faulty_image : (fault : ImageFault) → seen ≡ bytes → Consumes left left' bytes → IsAtEnd left' → length bytes ≤ 33554432 → IsRefused (Some turns) seen fault → IsImageRefused turns left left' fault
  is_faulty_image fault e came end few refused = inl (record { bytes = bytes; read = record { came = came; end = end; few = few }; refused = rw (← e) refused })

pub is_long_image : (turns : ℕ) (left left' : Option (List ℕ)) (fault : ImageFault) → CameMore left left' 33554432 → fault ≡ refusal 0 0 → IsImageRefused turns left left' fault
is_long_image turns left left' fault more is = inr (is, more)

not_over : (over : Bool) (most steps : ℕ) → (over || nat_lt most steps) ≡ false → steps ≤ most
not_over true most steps e = cc
not_over false most steps e = ltb-false most steps e

-- the steps of the image have room
pub has_room : (turns : ℕ) (left left' : Option (List ℕ)) (image : Image) → IsGivenImage turns left left' image → length image.steps ≤ turns
has_room turns left left' image given = not_over (nat_lt image.plan.turns (length image.steps)) turns (length image.steps) given.spelled.image.few

-- ---- what was made
module _ (turns : ℕ) (left left' : Option (List ℕ)) (image : Image) (given : IsGivenImage turns left left' image) (v : State) (plan : v.plan ≡ replayed_plan turns image) where
  pub is_image_plan : IsImagePlan turns left left' v.plan
  is_image_plan = record { image = image; given = given; same = plan }

  pub repeats : Retraces v.plan image.steps v.log → HasSteps image.steps v.log → Repeats turns left left' v
  repeats made steps = record { image = image; given = given; plan = plan; made = made; steps = steps }

  pub departs : (line : ℕ) → DiffersAt v.plan image.steps line v.log → Differs turns left left' v line
  departs line differs = record { image = image; given = given; plan = plan; differs = differs }

pub image_plan_or_none : (turns : ℕ) (left left' : Option (List ℕ)) (image : Image) → IsGivenImage turns left left' image → (v : State)
    → (v ≡ no_volume) ⊎ (v.plan ≡ replayed_plan turns image) → (v ≡ no_volume) ⊎ IsImagePlan turns left left' v.plan
image_plan_or_none turns left left' image given v (inl none) = inl none
image_plan_or_none turns left left' image given v (inr plan) = inr (is_image_plan turns left left' image given v plan)

-- ---- the same of a form that is a replay
pub form_plan : {turns : ℕ} {left left' : Option (List ℕ)} {v : State} (form : Form) → form ≡ kind.Replay turns → Repeats turns left left' v → IsPlanOf form left left' v.plan
form_plan form is r = rw is (record { image = r.image; given = r.given; same = r.plan })

pub form_plan_or_none : {turns : ℕ} {left left' : Option (List ℕ)} {v : State} (form : Form) → form ≡ kind.Replay turns → (v ≡ no_volume) ⊎ IsImagePlan turns left left' v.plan → (v ≡ no_volume) ⊎ IsPlanOf form left left' v.plan
form_plan_or_none form is h = rw is h

pub form_text : (turns : ℕ) (taken taken' : Option (List ℕ)) (p : Plan) (log : List Line) (form : Form) → form ≡ kind.Replay turns → Appends taken taken' (report_of p log) → Appends taken taken' (text_of form p log)
form_text turns taken taken' p log form is h = rw is h

-- a form that is none has no such status
pub no_status : (r s : ℕ) → (s ≡ 9) ⊎ (s ≡ 10) → (r ≡ 0) ⊎ (r ≡ 3) ⊎ (r ≡ 4) ⊎ (r ≡ 5) ⊎ (r ≡ 6) ⊎ (r ≡ 7) → r ≡ s → ⊥
no_status r s late few e = omega (arith, late, few, e)

-- want of memory is no end of a run
pub not_ended : (r : ℕ) → r ≡ 6 → (r ≡ 0) ⊎ (r ≡ 7) → ⊥
not_ended r six ended = omega (arith, six, ended)

-- ---- a text that was cut off
module _ {S : Type 0} (words : List (String Global)) (left : S → Option (List ℕ)) (source source' : S) (taken taken' : Option (List ℕ)) (v : State) (turns : ℕ) (asked : AskFor words (kind.Replay turns)) where
  pub stops_at_image_refusal : (fault : ImageFault) → IsImageRefused turns (left source) (left source') fault → v ≡ no_volume → AppendsFront taken taken' (image_refusal_line fault)
      → StopsWriting words left source source' taken taken' v
  stops_at_image_refusal fault cause none front = record { text = image_refusal_line fault; known = IsText.ImageRefusal turns asked fault cause none; front = front }

  -- the report of a run that was made again, or the line at which it differs
  pub stops_at_replay : (image : Image) → IsGivenImage turns (left source) (left source') image → v.plan ≡ replayed_plan turns image
      → (AppendsFront taken taken' (report_of v.plan v.log) × IsComplete v.plan v.log × IsOver v.plan v.log)
      ⊎ ((line : ℕ) × DiffersAt v.plan image.steps line v.log × AppendsFront taken taken' (difference_line line))
      → StopsWriting words left source source' taken taken' v
  stops_at_replay image given plan (inl (front, complete, over)) = record {
    text = report_of v.plan v.log;
    known = IsText.Report (kind.Replay turns) asked (is_image_plan turns (left source) (left source') image given v plan) complete over;
    front = front;
  }
  stops_at_replay image given plan (inr (line, differs, front)) = record {
    text = difference_line line;
    known = IsText.Difference turns asked line (departs turns (left source) (left source') image given v plan line differs);
    front = front;
  }

-- ---- a source that tells its bytes
module _ (turns : ℕ) (bytes : List ℕ) (left' : Option (List ℕ)) where
  given_few : (image : Image) → IsGivenImage turns (Some bytes) left' image → length bytes ≤ 33554432
  given_few image s = rw (← all_bytes bytes s.bytes left' s.read) s.read.few

  given_bytes : (image : Image) → IsGivenImage turns (Some bytes) left' image → IsImageOf (Some turns) bytes image
  given_bytes image s = rw (← all_bytes bytes s.bytes left' s.read) s.spelled

  faulty_few : (fault : ImageFault) → IsFaultyImage turns (Some bytes) left' fault → length bytes ≤ 33554432
  faulty_few fault r = rw (← all_bytes bytes r.bytes left' r.read) r.read.few

  faulty_bytes : (fault : ImageFault) → IsFaultyImage turns (Some bytes) left' fault → IsRefused (Some turns) bytes fault
  faulty_bytes fault r = rw (← all_bytes bytes r.bytes left' r.read) r.refused

  -- bytes with a fault are no image of a replay
  faulty_none : (fault : ImageFault) (image : Image) → HasImageFault turns bytes fault → IsGivenImage turns (Some bytes) left' image → ⊥
  faulty_none fault image (HasImageFault.Long more) s = omega (arith, more, given_few image s)
  faulty_none fault image (HasImageFault.Faulty few f refused) s = never_both same-plan (Some turns) bytes image f (given_bytes image s) refused

  -- they are refused with that fault alone
  only_fault : (fault other : ImageFault) → HasImageFault turns bytes fault → IsImageRefused turns (Some bytes) left' other → other ≡ fault
  only_fault fault other (HasImageFault.Long more) (inl r) = absurd (omega (arith, more, faulty_few other r))
  only_fault fault other (HasImageFault.Long more) (inr (e, long)) = e
  only_fault fault other (HasImageFault.Faulty few f refused) (inl r) = one_fault same-plan (Some turns) bytes other f (faulty_bytes other r) refused
  only_fault fault other (HasImageFault.Faulty few f refused) (inr (e, long)) = absurd (omega (arith, few, more_bytes 33554432 bytes left' long))

  -- bytes that are an image have no fault
  image_whole : (fault : ImageFault) (image : Image) → length bytes ≤ 33554432 → IsImageOf (Some turns) bytes image → IsImageRefused turns (Some bytes) left' fault → ⊥
  image_whole fault image few is (inl r) = never_both same-plan (Some turns) bytes image fault is (faulty_bytes fault r)
  image_whole fault image few is (inr (e, long)) = omega (arith, few, more_bytes 33554432 bytes left' long)

abbrev IsReplayStatus : ℕ → Type 0
IsReplayStatus r = (r ≡ 0) ⊎ (r ≡ 4) ⊎ (r ≡ 5) ⊎ (r ≡ 6) ⊎ (r ≡ 7) ⊎ (r ≡ 9) ⊎ (r ≡ 10)

module _ (turns : ℕ) (bytes : List ℕ) (left left' taken taken' : Option (List ℕ)) (status : ℕ) (v : State) (told : left ≡ Some bytes) where
  -- a fault is refused, unless the sink failed or memory was wanting
  pub refuses_image : (fault : ImageFault) → HasImageFault turns bytes fault → IsReplayStatus status
      → ((status ≡ 0) ⊎ (status ≡ 7) → Repeats turns left left' v) → (status ≡ 4 → ⊥) → (status ≡ 9 → IsImageRefusal turns left left' taken taken') → (status ≡ 10 → IsDifference turns left left' taken taken' v)
      → ((status ≡ 9) × Appends taken taken' (image_refusal_line fault)) ⊎ (status ≡ 5) ⊎ (status ≡ 6)
  refuses_image fault wrong (inl zero) same read refused differs = let r = same (inl zero) in absurd (faulty_none turns bytes left' fault r.image wrong (rw (← told) r.given))
  refuses_image fault wrong (inr (inl four)) same read refused differs = absurd (read four)
  refuses_image fault wrong (inr (inr (inl five))) same read refused differs = inr (inl five)
  refuses_image fault wrong (inr (inr (inr (inl six)))) same read refused differs = inr (inr six)
  refuses_image fault wrong (inr (inr (inr (inr (inl seven))))) same read refused differs = let r = same (inr seven) in absurd (faulty_none turns bytes left' fault r.image wrong (rw (← told) r.given))
  refuses_image fault wrong (inr (inr (inr (inr (inr (inl nine)))))) same read refused differs =
      let r = refused nine in inl (nine, rw (← only_fault turns bytes left' fault r.fault wrong (rw (← told) r.cause)) r.line)
  refuses_image fault wrong (inr (inr (inr (inr (inr (inr ten)))))) same read refused differs = let r = differs ten in absurd (faulty_none turns bytes left' fault r.cause.image wrong (rw (← told) r.cause.given))

  -- a run whose image is given is made again, unless the sink failed or memory was wanting
  pub replays : (image : Image) → length bytes ≤ 33554432 → IsImageOf (Some turns) bytes image → IsReplayStatus status
      → (status ≡ 4 → ⊥) → (status ≡ 9 → IsImageRefusal turns left left' taken taken')
      → (status ≡ 0) ⊎ (status ≡ 7) ⊎ (status ≡ 10) ⊎ (status ≡ 5) ⊎ (status ≡ 6)
  replays image few is (inl zero) read refused = inl zero
  replays image few is (inr (inl four)) read refused = absurd (read four)
  replays image few is (inr (inr (inl five))) read refused = inr (inr (inr (inl five)))
  replays image few is (inr (inr (inr (inl six)))) read refused = inr (inr (inr (inr six)))
  replays image few is (inr (inr (inr (inr (inl seven))))) read refused = inr (inl seven)
  replays image few is (inr (inr (inr (inr (inr (inl nine)))))) read refused = let r = refused nine in absurd (image_whole turns bytes left' r.fault image few is (rw (← told) r.cause))
  replays image few is (inr (inr (inr (inr (inr (inr ten)))))) read refused = inr (inr (inl ten))
