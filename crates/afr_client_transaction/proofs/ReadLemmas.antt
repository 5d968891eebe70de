-- A read between the looks and the attempt is allowed, and leaves a transaction sound; so does giving up.
use Rattle.std.proofs.Common.{◌≡◌, ℕ, ◌<◌, Bool, true, false, refl, sym, subst, inl}
use Rattle.afr_base.specs.Bricks.{is_nothing}
use Rattle.afr_base.specs.declared.ids.BrickId.{BrickId}
use Rattle.afr_choice.specs.Verdict.{good_copies}
use Rattle.afr_lines.specs.Areas.{kind_for}
use Rattle.afr_lines.specs.declared.answer.Told.{Told}
use Rattle.afr_lines.specs.declared.answer.Told.TheVariants as as_told
use Rattle.afr_lines.specs.declared.line.Next.TheVariants as next
use Rattle.afr_lines.specs.declared.reply.Reply.{Reply}
use Rattle.afr_lines.specs.declared.request.Request.{Request}
use Rattle.afr_lines.specs.declared.request.Request.TheVariants as request
use Rattle.afr_model_moves.specs.Honest.{plane_kind}
use Rattle.afr_model_moves.specs.Keeps.{keeps_in}
use Rattle.afr_model_moves.specs.Lines.{is_ok}
use Rattle.afr_model_moves.specs.Register.{holder}
use Rattle.afr_discipline.specs.Inside.{may_move}
use Rattle.afr_discipline.specs.Stands.{seen_as, views_of}
use Rattle.afr_discipline.specs.Tests.{may_end, suffices_by}
use Rattle.afr_discipline.specs.declared.register.Move.{Move}
use Rattle.afr_discipline.specs.declared.register.Register.{Register}
use Rattle.afr_client_transaction.specs.Between.{given_up, is_read, noted_read}
use Rattle.afr_client_transaction.specs.Laws.{IsMoveOf}
use Rattle.afr_client_transaction.specs.Progress.{TransactionProgress, allowed, is_beginning, is_over}
use Rattle.afr_client_transaction.specs.Sound.{During, HasQuorum, Posted, Sound}
use Rattle.afr_client_transaction.specs.declared.stage.Stage.{Stage}
use Rattle.afr_client_transaction.specs.declared.stage.Stage.TheVariants.{Beginning, Closing}
use Rattle.afr_client_transaction.proofs.Allowed.{end_allowed, moves_of}
use Rattle.afr_client_transaction.proofs.Parts.{base_gone, both, lt_test, pair}
use Rattle.afr_client_transaction.proofs.Quorum.{quorum_there}
use Rattle.afr_client_transaction.proofs.Requests.{after_outside, noted_is}

pub begins_at : (stage : Stage) → is_beginning stage ≡ true → stage ≡ Beginning
begins_at Beginning e = refl
begins_at stage e = absurd (cc e)

-- ---- what a read leaves
module _ (m : TransactionProgress) (s : Sound m) (b : ℕ) (told : Told) where
  abbrev r : Register
  r = m.register

  abbrev read_to : Register → TransactionProgress
  read_to q = record { change = m.change; register = q; stage = Beginning; asked = m.asked }

  read_by : (q : Request) → is_read q ≡ true → During Beginning m → Posted Beginning m → Sound (read_to (after_outside r b q told))
  read_by (request.ReadName g name) e d p = by told
    where
      by : (told : Told) → Sound (read_to (after_outside r b (request.ReadName g name) told))
      by as_told.NotConnected = record { suits = s.suits; base = base_gone _ _ _ _ _ _ _ _ _ _ _ _ s.base b; during = d; posted = p; ready = tt }
      by told = record { suits = s.suits; base = s.base; during = d; posted = p; ready = tt }
  read_by (request.ReadBytes g at len) e d p = by told
    where
      by : (told : Told) → Sound (read_to (after_outside r b (request.ReadBytes g at len) told))
      by as_told.NotConnected = record { suits = s.suits; base = base_gone _ _ _ _ _ _ _ _ _ _ _ _ s.base b; during = d; posted = p; ready = tt }
      by told = record { suits = s.suits; base = s.base; during = d; posted = p; ready = tt }
  read_by (request.ReadAttr g key) e d p = by told
    where
      by : (told : Told) → Sound (read_to (after_outside r b (request.ReadAttr g key) told))
      by as_told.NotConnected = record { suits = s.suits; base = base_gone _ _ _ _ _ _ _ _ _ _ _ _ s.base b; during = d; posted = p; ready = tt }
      by told = record { suits = s.suits; base = s.base; during = d; posted = p; ready = tt }
  read_by (request.List g) e d p = by told
    where
      by : (told : Told) → Sound (read_to (after_outside r b (request.List g) told))
      by as_told.NotConnected = record { suits = s.suits; base = base_gone _ _ _ _ _ _ _ _ _ _ _ _ s.base b; during = d; posted = p; ready = tt }
      by told = record { suits = s.suits; base = s.base; during = d; posted = p; ready = tt }
  read_by q e d p = absurd (cc e)

-- whatever a read is told, the transaction stays sound
pub kept_read : (m : TransactionProgress) → Sound m → is_beginning m.stage ≡ true → (b : ℕ) (q : Request) → is_read q ≡ true → (told : Told) (at : ℕ) → Sound (noted_read b q told at m)
kept_read m s is b q reads told at = go m.stage (begins_at m.stage is) s.during s.posted
  where
    go : (stage : Stage) → stage ≡ Beginning → During stage m → Posted stage m → Sound (record { change = m.change; register = (noted_read b q told at m).register; stage = stage; asked = m.asked })
    go Beginning e d p = subst (λ (x : Register). Sound (record { change = m.change; register = x; stage = Beginning; asked = m.asked })) (sym (noted_is m.register at b q told s.base.outside)) (read_by m s b told q reads d p)
    go stage e d p = absurd (cc e)

-- a change that is given up is followed by the unlocks
pub kept_given_up : (m : TransactionProgress) → Sound m → is_beginning m.stage ≡ true → Sound (given_up m)
kept_given_up m s is = go m.stage (begins_at m.stage is) s.posted
  where
    go : (stage : Stage) → stage ≡ Beginning → Posted stage m → Sound (given_up m)
    go Beginning e p = record { suits = s.suits; base = s.base; during = tt; posted = inl p; ready = tt }
    go stage e p = absurd (cc e)

-- ---- what is allowed
-- a read of a brick of the volume
pub read_allowed : (m : TransactionProgress) → Sound m → (b : BrickId) (q : Request) → b.0 < m.register.shape.n → is_read q ≡ true → (of : Move) → IsMoveOf (next.Ask b q) of
    → may_move m.register.shape.n (keeps_in m.register.shape) (seen_as m.register) of ≡ true
read_allowed m s b q small reads of is = moves_of m.register (next.Ask b q) of s.base.outside (by q reads) is
  where
    by : (q : Request) → is_read q ≡ true → allowed m.register (next.Ask b q) ≡ true
    by (request.ReadName g name) e = pair _ _ (lt_test _ _ small) refl
    by (request.ReadBytes g at len) e = pair _ _ (lt_test _ _ small) refl
    by (request.ReadAttr g key) e = pair _ _ (lt_test _ _ small) refl
    by (request.List g) e = pair _ _ (lt_test _ _ small) refl
    by q e = absurd (cc e)

-- an end that acknowledges nothing, where no lock is left
refusal_allowed : (m : TransactionProgress) → Sound m → is_over m.stage m ≡ true → may_end m.register.shape.n (seen_as m.register) false ≡ true
refusal_allowed m s over = go m.stage over
  where
    go : (stage : Stage) → is_over stage m ≡ true → may_end m.register.shape.n (seen_as m.register) false ≡ true
    go Closing e = pair _ _ (both _ _ (end_allowed m s.suits s.base 0 e)).0 refl
    go stage e = absurd (cc e)

pub refusal_moves : (m : TransactionProgress) → Sound m → is_over m.stage m ≡ true → (said : Reply) → is_ok said ≡ false → (of : Move) → IsMoveOf (next.End said) of
    → may_move m.register.shape.n (keeps_in m.register.shape) (seen_as m.register) of ≡ true
refusal_moves m s over said not_ok of is =
    moves_of m.register (next.End said) of s.base.outside (subst (λ (ok : Bool). may_end m.register.shape.n (seen_as m.register) ok ≡ true) (sym not_ok) (refusal_allowed m s over)) is

-- ---- who is read
-- where an attempt may begin, some copy is good, and it is one of the volume's
pub some_good : (m : TransactionProgress) → Sound m → is_beginning m.stage ≡ true → is_nothing (good_copies m.register.shape m.register.looked (kind_for m.change)) ≡ false
some_good m s is = go m.stage (begins_at m.stage is) s.during
  where
    go : (stage : Stage) → stage ≡ Beginning → During stage m → is_nothing (good_copies m.register.shape m.register.looked (kind_for m.change)) ≡ false
    go Beginning e d =
        let r = m.register in
        let split = both _ (suffices_by r.shape.n (keeps_in r.shape) (plane_kind m.change) (views_of r.looked) (holder (views_of r.looked))) d.1 in
        let k : HasQuorum m.change r.shape r.looked = quorum_there m.change r.shape r.looked s.base.few s.base.shown (both _ _ split.0).1 split.1 in
        k.clean
    go stage e d = absurd (cc e)
