-- A free line is allowed after free lines, and leaves the register one of free lines.
use Rattle.std.proofs.Common.{◌≡◌, ℕ, zero, suc, ◌<◌, ◌&&◌, nat_lt, Bool, true, false, [], refl, sym, ap, subst, ◌∙◌, arith, inl, inr}
use Rattle.std.proofs.lemmas.Bool.{and_from, lt-ltb}
use Rattle.afr_base.specs.Bricks.{member}
use Rattle.afr_base.specs.declared.ids.BrickId.{BrickId}
use Rattle.afr_base.specs.declared.ids.Shape.{Shape}
use Rattle.afr_lines.specs.declared.answer.Told.{Told}
use Rattle.afr_lines.specs.declared.answer.Told.TheVariants as as_told
use Rattle.afr_lines.specs.declared.line.Next.TheVariants as next
use Rattle.afr_lines.specs.declared.reply.Reply.{Reply}
use Rattle.afr_lines.specs.declared.request.Request.{Request}
use Rattle.afr_lines.specs.declared.request.Request.TheVariants.{Look, ReadName, ReadBytes, ReadAttr, List as ListNames}
use Rattle.afr_model_moves.specs.Keeps.{keeps_in}
use Rattle.afr_model_moves.specs.Sets.{any}
use Rattle.afr_discipline.specs.Notes.{noted_ask}
use Rattle.afr_discipline.specs.Stands.{no_lines, seen_as}
use Rattle.afr_discipline.specs.Tests.{may_ask_outside, may_end}
use Rattle.afr_discipline.specs.declared.register.Move.TheVariants as move
use Rattle.afr_discipline.specs.declared.register.Register.{Register}
use Rattle.afr_discipline.specs.declared.register.Step.TheVariants as step
use Rattle.afr_discipline.specs.Free.{Allows, AllowsAsk, IsFree, is_free}

abbrev opened : Shape → Register
opened shape = record (no_lines shape) { step = step.Open }

pub shape_is : (shape : Shape) (r : Register) → IsFree shape r → r.shape ≡ shape
shape_is shape r (inl e) = ap (λ (x : Register). x.shape) e
shape_is shape r (inr e) = ap (λ (x : Register). x.shape) e

-- ---- a line more
-- what a request and its answer leave of the register before any line
noted_first : (shape : Shape) (at b : ℕ) (request : Request) (told : Told) → is_free request ≡ true → noted_ask (no_lines shape) at b request told ≡ opened shape
noted_first shape at b (Look g) as_told.NotConnected h = refl
noted_first shape at b (Look g) told h = refl
noted_first shape at b (ReadName g name) as_told.NotConnected h = refl
noted_first shape at b (ReadName g name) told h = refl
noted_first shape at b (ReadBytes g from len) as_told.NotConnected h = refl
noted_first shape at b (ReadBytes g from len) told h = refl
noted_first shape at b (ReadAttr g key) as_told.NotConnected h = refl
noted_first shape at b (ReadAttr g key) told h = refl
noted_first shape at b (ListNames g) as_told.NotConnected h = refl
noted_first shape at b (ListNames g) told h = refl
noted_first shape at b request told h = absurd (cc h)

noted_later : (shape : Shape) (at b : ℕ) (request : Request) (told : Told) → is_free request ≡ true → noted_ask (opened shape) at b request told ≡ opened shape
noted_later shape at b (Look g) as_told.NotConnected h = refl
noted_later shape at b (Look g) told h = refl
noted_later shape at b (ReadName g name) as_told.NotConnected h = refl
noted_later shape at b (ReadName g name) told h = refl
noted_later shape at b (ReadBytes g from len) as_told.NotConnected h = refl
noted_later shape at b (ReadBytes g from len) told h = refl
noted_later shape at b (ReadAttr g key) as_told.NotConnected h = refl
noted_later shape at b (ReadAttr g key) told h = refl
noted_later shape at b (ListNames g) as_told.NotConnected h = refl
noted_later shape at b (ListNames g) told h = refl
noted_later shape at b request told h = absurd (cc h)

pub stays_free : (shape : Shape) (r : Register) (at b : ℕ) (request : Request) (told : Told) → IsFree shape r → is_free request ≡ true → IsFree shape (noted_ask r at b request told)
stays_free shape r at b request told (inl e) h = inr (ap (λ (x : Register). noted_ask x at b request told) e ∙ noted_first shape at b request told h)
stays_free shape r at b request told (inr e) h = inr (ap (λ (x : Register). noted_ask x at b request told) e ∙ noted_later shape at b request told h)

-- it is noted by the step alone
pub noted_free : (r : Register) (at b : ℕ) (request : Request) (told : Told) → IsFree r.shape r → is_free request ≡ true → record r { step = step.Open } ≡ noted_ask r at b request told
noted_free r at b request told (inl e) h = ap (λ (x : Register). record x { step = step.Open }) e ∙ sym (ap (λ (x : Register). noted_ask x at b request told) e ∙ noted_first r.shape at b request told h)
noted_free r at b request told (inr e) h = ap (λ (x : Register). record x { step = step.Open }) e ∙ sym (ap (λ (x : Register). noted_ask x at b request told) e ∙ noted_later r.shape at b request told h)

pub opened_free : (r : Register) → IsFree r.shape r → IsFree r.shape (record r { step = step.Open })
opened_free r (inl e) = inr (ap (λ (x : Register). record x { step = step.Open }) e)
opened_free r (inr e) = inr (ap (λ (x : Register). record x { step = step.Open }) e)

-- a free register is one of its own shape
pub free_here : (shape : Shape) (r : Register) → IsFree shape r → IsFree r.shape r
free_here shape r free = subst (λ (s : Shape). IsFree s r) (sym (shape_is shape r free)) free

-- ---- what is allowed
free_outside : (shape : Shape) (r : Register) (b : ℕ) (request : Request) → is_free request ≡ true → may_ask_outside shape.n (keeps_in shape) (seen_as r) b request ≡ true
free_outside shape r b (Look g) h = refl
free_outside shape r b (ReadName g name) h = refl
free_outside shape r b (ReadBytes g from len) h = refl
free_outside shape r b (ReadAttr g key) h = refl
free_outside shape r b (ListNames g) h = refl
free_outside shape r b request h = absurd (cc h)

-- a free request is allowed at each brick
pub allows_free : (shape : Shape) (r : Register) (brick : BrickId) (request : Request) → IsFree shape r → is_free request ≡ true → brick.0 < shape.n → AllowsAsk r brick request
allows_free shape r brick request free h l = λ of is. by free of is
  where
    asks : (x : Register) (asked : BrickId) (other : Request) → asked ≡ brick → other ≡ request → (nat_lt asked.0 shape.n && may_ask_outside shape.n (keeps_in shape) (seen_as x) asked.0 other) ≡ true
    asks x asked other e f = rw (e, f) (and_from _ _ (lt-ltb brick.0 shape.n l) (free_outside shape x brick.0 request h))

    by : IsFree shape r → AllowsAsk r brick request
    by (inl e) (move.Ask asked other) is = rw e (asks (no_lines shape) asked other.now is.0 is.1)
    by (inl e) (move.Begin change) is = absurd is
    by (inl e) (move.HealBegin g kind) is = absurd is
    by (inl e) (move.End ok) is = absurd is
    by (inr e) (move.Ask asked other) is = rw e (asks (opened shape) asked other.now is.0 is.1)
    by (inr e) (move.Begin change) is = absurd is
    by (inr e) (move.HealBegin g kind) is = absurd is
    by (inr e) (move.End ok) is = absurd is

none : (n : ℕ) → any n (member []) ≡ false
none zero = refl
none (suc n) = none n

end_first : (shape : Shape) (r : Register) (ok : Bool) → r ≡ no_lines shape → may_end shape.n (seen_as r) ok ≡ true
end_first shape r true e = rw (e, none shape.n) refl
end_first shape r false e = rw (e, none shape.n) refl

end_later : (shape : Shape) (r : Register) (ok : Bool) → r ≡ opened shape → may_end shape.n (seen_as r) ok ≡ true
end_later shape r true e = rw (e, none shape.n) refl
end_later shape r false e = rw (e, none shape.n) refl

-- the work may end after free lines
pub allows_end : (shape : Shape) (r : Register) (reply : Reply) → IsFree shape r → Allows r (next.End reply)
allows_end shape r reply free = by free
  where
    by : IsFree shape r → Allows r (next.End reply)
    by (inl e) (move.Ask asked other) is = absurd is
    by (inl e) (move.Begin change) is = absurd is
    by (inl e) (move.HealBegin g kind) is = absurd is
    by (inl e) (move.End ok) is = rw e (end_first shape (no_lines shape) ok refl)
    by (inr e) (move.Ask asked other) is = absurd is
    by (inr e) (move.Begin change) is = absurd is
    by (inr e) (move.HealBegin g kind) is = absurd is
    by (inr e) (move.End ok) is = rw e (end_later shape (opened shape) ok refl)
