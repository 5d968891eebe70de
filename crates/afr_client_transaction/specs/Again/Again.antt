-- What a transaction leaves in the register, and the first lock of another after it.
use Rattle.std.specs.Prelude.{◌≡◌, ℕ, ◌<◌, nat_le, true, false, []}
use Rattle.afr_object.specs.declared.change.Change.{Change}
use Rattle.afr_lines.specs.declared.lock.Domain.TheVariants.{Work}
use Rattle.afr_lines.specs.declared.answer.Told.{Told}
use Rattle.afr_lines.specs.declared.request.Area.{Area}
use Rattle.afr_lines.specs.declared.request.Request.{Request}
use Rattle.afr_lines.specs.declared.request.Request.TheVariants.{Lock}
use Rattle.afr_base.specs.declared.ids.Shape.{Shape}
use Rattle.afr_model_moves.specs.Register.{rank}
use Rattle.afr_discipline.specs.Notes.{noted_ask}
use Rattle.afr_discipline.specs.Stands.{no_lines, step_of}
use Rattle.afr_discipline.specs.declared.register.Register.{Register}
use Rattle.afr_discipline.specs.declared.register.Step.TheVariants as step
use Rattle.afr_client_transaction.specs.Between.{is_read}
use Rattle.afr_client_transaction.specs.Outcome.{outcome_of}
use Rattle.afr_client_transaction.specs.Progress.{TransactionProgress, allowed, begun, fed, is_over, next_at, starting}
use Rattle.afr_client_transaction.specs.Sound.{Sound, Suits}
use Rattle.afr_client_transaction.specs.declared.reply.TransactionOutcome.TheVariants.{Acknowledged}
use Rattle.afr_client_transaction.specs.declared.stage.Stage.TheVariants.{Beginning, Locking}

-- the register of no line, but for what a transaction keeps there
abbrev pub but_for_transaction : Register → Register
but_for_transaction r = record (no_lines r.shape) {
  area = r.area;
  held = r.held;
  second = r.second;
  second_held = r.second_held;
  looked = r.looked;
  pre = r.pre;
  done = r.done;
  post = r.post;
  step = r.step;
  asked = r.asked;
  unlocked = r.unlocked;
  begun = r.begun;
}

-- nothing of a heal was ever noted
pub record IsPlain (r : Register) : Type 0 where
  pub only : r ≡ but_for_transaction r
  pub outside : nat_le (rank (step_of r.step)) 4 ≡ true

-- a work that has only looked and read
abbrev pub opened : Shape → Register
opened shape = record (no_lines shape) { step = step.Open }

-- so is the register before any line, and after looks and reads
pub record IsPlainFirst (shape : Shape) : Type 0 where
  pub none : IsPlain (no_lines shape)
  pub free : IsPlain (opened shape)

-- so it is at the start of a work
abbrev pub PlainFirst : Type 0
PlainFirst = (shape : Shape) → IsPlainFirst shape

-- whatever a brick tells, it stays so
abbrev pub PlainKept : Type 0
PlainKept = (m : TransactionProgress) → Sound m → IsPlain m.register → (m.stage ≡ Beginning → ⊥) → (told : Told) (at : ℕ) → IsPlain (fed m.stage told at m).register

-- so it is after a read between its looks and its attempt
abbrev pub PlainRead : Type 0
PlainRead = (r : Register) (at b : ℕ) (request : Request) (told : Told) → is_read request ≡ true → IsPlain r → IsPlain (noted_ask r at b request told)

-- and after a Begin line
abbrev pub PlainBegun : Type 0
PlainBegun = (m : TransactionProgress) → IsPlain m.register → (at : ℕ) → IsPlain (begun at m).register

-- a transaction that is over holds no lock
pub record IsRested (r : Register) : Type 0 where
  pub held : r.held ≡ []
  pub second_held : r.second_held ≡ []
  pub outside : r.inside ≡ false

-- a transaction that is over rests
abbrev pub EndsPlain : Type 0
EndsPlain = (m : TransactionProgress) → Sound m → is_over m.stage m ≡ true → IsRested m.register

-- after a transaction that is acknowledged the first lock of another is allowed
abbrev pub AgainAllowed : Type 0
AgainAllowed = (m : TransactionProgress) (change : Change) (at : ℕ) → Sound m → 0 < m.register.shape.n → is_over m.stage m ≡ true → outcome_of m.change m.register ≡ Acknowledged → Suits change → allowed m.register (next_at Locking at (starting change m.register)) ≡ true

-- and after it the register is the one of a work that has only looked and read before this lock
abbrev pub AgainSame : Type 0
AgainSame = (r : Register) (at b : ℕ) (area : Area) (told : Told) → IsPlain r → IsRested r → noted_ask r at b (Lock Work area) told ≡ noted_ask (opened r.shape) at b (Lock Work area) told

-- a new transaction leaves the same
abbrev pub AgainNew : Type 0
AgainNew =
    (m : TransactionProgress) (change : Change) (told : Told) (at : ℕ) → Sound m → IsPlain m.register → is_over m.stage m ≡ true
    → fed Locking told at (starting change m.register) ≡ fed Locking told at (starting change (no_lines m.register.shape))

-- so the second transaction is sound after its first lock, and its register is the one that notes the lock
pub record FollowsOn (m : TransactionProgress) (change : Change) (told : Told) (at : ℕ) : Type 0 where
  pub sound : Sound (fed Locking told at (starting change (opened m.register.shape)))
  pub register : (fed Locking told at (starting change m.register)).register ≡ (fed Locking told at (starting change (opened m.register.shape))).register
  pub alike : fed Locking told at (starting change m.register) ≡ fed Locking told at (starting change (opened m.register.shape))

-- a transaction that follows another is as sound as a first one
abbrev pub AgainSound : Type 0
AgainSound = (m : TransactionProgress) (change : Change) (told : Told) (at : ℕ) → Sound m → IsPlain m.register → 0 < m.register.shape.n → is_over m.stage m ≡ true → Suits change → FollowsOn m change told at
