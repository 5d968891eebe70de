-- The steps and the locks of a register are noted one after the other as if each were noted of the register before.
use Rattle.std.proofs.Common.{◌≡◌, ℕ, ◌&&◌, not, Bool, true, false, if◌then◌else◌, refl, sym, ap, ◌∙◌, Some}
use Rattle.std.specs.Prelude.{List as Seq}
use Rattle.afr_base.specs.Bricks.{added, removed}
use Rattle.afr_base.specs.declared.ids.Shape.{Shape}
use Rattle.afr_lines.specs.declared.lock.Domain.TheVariants.{Work, Heal}
use Rattle.afr_lines.specs.declared.answer.Told.{Told}
use Rattle.afr_lines.specs.declared.request.Area.{Area}
use Rattle.afr_lines.specs.declared.request.Request.{Request}
use Rattle.afr_lines.specs.declared.request.Request.TheVariants.{Lock, Unlock, Look, ReadBytes, List, ReadAttrs, Pre, Apply, Post, Mend, Settle}
use Rattle.afr_model_moves.specs.Past.{is_gone}
use Rattle.afr_model_moves.specs.Rules.{busy, is_area}
use Rattle.afr_model_moves.specs.Note.{is_done, is_granted}
use Rattle.afr_discipline.specs.declared.register.Register.{Register}
use Rattle.afr_discipline.specs.Notes.{anew, dropped, is_working, joined, noted_inside, noted_law, noted_outside, noted_steps, second_in, second_left, with_held}
use Rattle.afr_discipline.specs.Stands.{seen_as}
use Rattle.afr_discipline.proofs.NotedShape.{steps_shape}

-- ---- the locks never read the steps
-- a Work lock, by whether it was granted, whether the actor holds one, and whether the area is its own
abbrev locked_by : (granted works own : Bool) → Register → Area → ℕ → Register
locked_by true true false p area b = record p { second = Some area; second_held = added b p.second_held }
locked_by true true true p area b = with_held (record p { second = second_in p area }) b
locked_by true false own p area b = with_held (anew p area) b
locked_by false true own p area b = record p { second = second_in p area }
locked_by false false own p area b = anew p area

-- it is the Work lock
locked_is : (granted works own : Bool) (p : Register) (area : Area) (b : ℕ)
    → (let asked = (if works then record p { second = second_in p area } else anew p area) in if granted then (if works && not own then record p { second = Some area; second_held = added b p.second_held } else with_held asked b) else asked) ≡ locked_by granted works own p area b
locked_is true true false p area b = refl
locked_is true true true p area b = refl
locked_is true false true p area b = refl
locked_is true false false p area b = refl
locked_is false true own p area b = refl
locked_is false false own p area b = refl

-- over the steps of another
locked_apart : (granted works own : Bool) (q p : Register) (area : Area) (b : ℕ) → locked_by granted works own (joined q p) area b ≡ joined q (locked_by granted works own p area b)
locked_apart true true false q p area b = refl
locked_apart true true true q p area b = refl
locked_apart true false own q p area b = refl
locked_apart false true own q p area b = refl
locked_apart false false own q p area b = refl

-- an area is given back
released_apart : (own : Bool) (q p : Register) (area : Area) (b : ℕ)
    → (if own then record (joined q p) { held = removed b p.held } else record (joined q p) { second_held = second_left p area b }) ≡ joined q (if own then record p { held = removed b p.held } else record p { second_held = second_left p area b })
released_apart true q p area b = refl
released_apart false q p area b = refl

-- where the request was carried out
done_apart : (flag : Bool) (q p x y : Register) → x ≡ joined q y → (if flag then x else joined q p) ≡ joined q (if flag then y else p)
done_apart true q p x y e = e
done_apart false q p x y e = refl

-- the actor holds a lock, whatever its steps
works_apart : (q p : Register) → q.shape ≡ p.shape → is_working (joined q p) ≡ is_working p
works_apart q p size = ap (λ (s : Shape). busy s.n (seen_as p).law) size

-- what the locks keep of a request and its answer
law_apart : (q p : Register) (b : ℕ) (request : Request) (told : Told) → q.shape ≡ p.shape → noted_law (joined q p) b request told ≡ joined q (noted_law p b request told)
law_apart q p b (Lock Work area) told size =
    locked_is (is_granted told) (is_working (joined q p)) (is_area p.area area) (joined q p) area b
    ∙ ap (λ (works : Bool). locked_by (is_granted told) works (is_area p.area area) (joined q p) area b) (works_apart q p size)
    ∙ locked_apart (is_granted told) (is_working p) (is_area p.area area) q p area b
    ∙ ap (joined q) (sym (locked_is (is_granted told) (is_working p) (is_area p.area area) p area b))
law_apart q p b (Lock Heal area) told size = refl
law_apart q p b (Unlock Work area) told size = done_apart (is_done told) q p _ _ (released_apart (is_area p.area area) q p area b)
law_apart q p b (Unlock Heal area) told size = done_apart (is_done told) q p _ _ refl
law_apart q p b (Pre g kind) told size = refl
law_apart q p b (Apply at) told size = refl
law_apart q p b (Post at g kind missed) told size = refl
law_apart q p b (Settle g kind less) told size = refl
law_apart q p b _ told size = refl

-- a session that has ended
dropped_apart : (gone : Bool) (b : ℕ) (q p : Register) → dropped gone b (joined q p) ≡ joined q (dropped gone b p)
dropped_apart true b q p = refl
dropped_apart false b q p = refl

-- ---- the steps leave the locks
-- one of two that leave them
either_leaves : (flag : Bool) (p x y : Register) → joined x p ≡ x → joined y p ≡ y → joined (if flag then x else y) p ≡ (if flag then x else y)
either_leaves true p x y e f = e
either_leaves false p x y e f = f

-- outside a heal
outside_leaves : (p : Register) (b : ℕ) (request : Request) (told : Told) → joined (noted_outside p b request told) p ≡ noted_outside p b request told
outside_leaves p b (Lock Work area) told = either_leaves (is_working p) p _ _ refl refl
outside_leaves p b (Lock Heal area) told = refl
outside_leaves p b (Unlock Work area) told = refl
outside_leaves p b (Unlock Heal area) told = refl
outside_leaves p b (Look g) told = refl
outside_leaves p b (Pre g kind) told = refl
outside_leaves p b (Apply q) told = refl
outside_leaves p b (Post q g kind missed) told = refl
outside_leaves p b _ told = refl

-- in a heal
inside_leaves : (p : Register) (t b : ℕ) (request : Request) (told : Told) → joined (noted_inside p t b request told) p ≡ noted_inside p t b request told
inside_leaves p t b (Lock Heal area) told = refl
inside_leaves p t b (Lock Work area) told = refl
inside_leaves p t b (Unlock Work area) told = refl
inside_leaves p t b (Unlock Heal area) told = refl
inside_leaves p t b (Look g) told = refl
inside_leaves p t b (ReadBytes g at len) told = refl
inside_leaves p t b (ReadAttrs g) told = refl
inside_leaves p t b (List g) told = refl
inside_leaves p t b (Pre g kind) told = refl
inside_leaves p t b (Mend repair) told = refl
inside_leaves p t b (Settle g kind less) told = refl
inside_leaves p t b _ told = refl

-- with what may be the source, and whether the heal is broken
inside_after : (p x : Register) (possible : Seq ℕ) (broken : Bool) → joined x p ≡ x → joined (record x { possible = possible; broken = broken }) p ≡ record x { possible = possible; broken = broken }
inside_after p x possible broken e = ap (λ (y : Register). record y { possible = possible; broken = broken }) e

steps_leave : (p : Register) (t b : ℕ) (request : Request) (told : Told) → joined (noted_steps p t b request told) p ≡ noted_steps p t b request told
steps_leave p t b request told = either_leaves p.inside p _ _ (inside_after p _ _ _ (inside_leaves p t b request told)) (outside_leaves p b request told)

-- ---- both
-- the locks noted after the steps are noted as of the register before
noted_after : (p q : Register) (t b : ℕ) (request : Request) (told : Told) (gone : Bool) → q ≡ noted_steps p t b request told → q.shape ≡ p.shape
    → dropped gone b (noted_law q b request told) ≡ joined (noted_steps p t b request told) (dropped gone b (noted_law p b request told))
noted_after p q t b request told gone is size =
    ap (λ (x : Register). dropped gone b (noted_law x b request told)) (is ∙ sym (steps_leave p t b request told))
    ∙ ap (dropped gone b) (law_apart (noted_steps p t b request told) p b request told (ap (λ (x : Register). x.shape) (sym is) ∙ size))
    ∙ dropped_apart gone b (noted_steps p t b request told) (noted_law p b request told)

module _ (p q l d : Register) (t b : ℕ) (request : Request) (told : Told) (gone : Bool) (steps : q ≡ noted_steps p t b request told) (law : l ≡ noted_law q b request told) (is : gone ≡ is_gone told) (drop : d ≡ dropped gone b l) where
  -- the steps, the locks, and those that a session took along, one after the other
  pub noted_in_turn : d ≡ joined (noted_steps p t b request told) (dropped (is_gone told) b (noted_law p b request told))
  noted_in_turn = drop ∙ (λ i. dropped (is i) b (law i)) ∙ noted_after p q t b request told (is_gone told) steps (ap (λ (x : Register). x.shape) steps ∙ steps_shape p t b request told)

  -- keep the shape
  pub turn_shape : d.shape ≡ p.shape
  turn_shape = ap (λ (x : Register). x.shape) noted_in_turn ∙ steps_shape p t b request told
