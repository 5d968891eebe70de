-- Where a round stands in the heals of its list.
use Rattle.std.proofs.Common.{◌≡◌, ◌∙◌, ℕ, zero, suc, ◌≤◌, ◌==◌, ◌%◌, ◌/◌, Bool, true, false, List, [], ◌∷◌, Option, Some, None, length, slice_get, refl, sym, ap, subst, arith, if◌then◌else◌}
use Rattle.std.specs.Option.{option_map}
use Rattle.std.specs.Prelude.{is_some}
use Rattle.std.proofs.lemmas.Option.{same_Some, some_pair_parts}
use Rattle.afr_base.specs.declared.ids.ActorId.{ActorId}
use Rattle.afr_base.specs.declared.ids.BrickId.{BrickId}
use Rattle.afr_base.specs.declared.ids.Gfid.{Gfid}
use Rattle.afr_base.specs.declared.ids.Kind.{Kind}
use Rattle.afr_base.specs.declared.ids.Kind.TheVariants.{Attrs}
use Rattle.afr_base.specs.declared.ids.What.{What}
use Rattle.afr_lines.specs.Work.{Work, is_end, is_of, work}
use Rattle.afr_lines.specs.declared.answer.Told.{Told}
use Rattle.afr_lines.specs.declared.line.Line.{Line}
use Rattle.afr_lines.specs.declared.line.Line.TheVariants.{Ask, HealEnd}
use Rattle.afr_lines.specs.declared.lock.Domain.TheVariants.{Heal}
use Rattle.afr_lines.specs.declared.request.Request.{Request}
use Rattle.afr_lines.specs.declared.request.Request.TheVariants.{Index, Lock}
use Rattle.afr_model.specs.Rounds.{IsOfHeal, due_in, heals_ended, heals_of, kind_within, object_healed, plus_healed}
use Rattle.afr_trace_follow.proofs.PartLemmas.{work_step}
use Rattle.afr_trace_follow.specs.Healing.{IsHealing, has_line, is_index, nth_heal, object_locked}
use Rattle.afr_trace_follow.specs.Turns.{AsksIndex, HealsInTurn, KeepsToList}
use Rattle.afr_trace_follow.specs.declared.rounds.Healing.{Healing}

-- ---- the heals of a list
-- the heal at a place of the list, the first of its object or not
abbrev picked : List (Gfid × What) → ℕ → ℕ → Option (Gfid × Kind)
picked list half rest = option_map (λ x. (x.0, if rest == 0 then Attrs else kind_within x.1)) (slice_get list half)

pub heals_get : (list : List (Gfid × What)) (n : ℕ) → slice_get (heals_of list) n ≡ nth_heal list n
heals_get [] n = refl
heals_get (x ∷ more) zero = refl
heals_get (x ∷ more) (suc zero) = refl
heals_get (x ∷ more) (suc (suc n)) =
    let half : suc (suc n) / 2 ≡ suc (n / 2) = omega arith in
    let rest : suc (suc n) % 2 ≡ n % 2 = omega arith in
    heals_get more n ∙ ap (λ (h : ℕ). picked (x ∷ more) h (n % 2)) (sym half) ∙ ap (λ (r : ℕ). picked (x ∷ more) (suc (suc n) / 2) r) (sym rest)

-- ---- where a round stands
plus_few : (line : Line) (n len : ℕ) → n ≤ len → plus_healed line n ≤ suc len
plus_few (HealEnd a g kind reply) n len l = omega (arith, l)
plus_few line n len l = omega (arith, l)

healed_few : (of end : Bool) (line : Line) (n len : ℕ) → n ≤ len → (if of then (if end then 0 else plus_healed line n) else n) ≤ suc len
healed_few true true line n len l = omega arith
healed_few true false line n len l = plus_few line n len l
healed_few false end line n len l = omega (arith, l)

pub healing_step : (a : ℕ) (line : Line) (older : List Line) (x was : Healing) → x.begun ≡ (if is_of a line then (if is_end line then false else true) else was.begun)
    → x.healed ≡ (if is_of a line then (if is_end line then 0 else plus_healed line was.healed) else was.healed) → IsHealing a older was → IsHealing a (line ∷ older) x
healing_step a line older x was hb hh v = record {
  begun = hb ∙ work_step has_line (λ line older t. true) (λ line older w. refl) a line older was.begun v.begun;
  healed = hh ∙ work_step heals_ended (λ line older n. plus_healed line n) (λ line older w. refl) a line older was.healed v.healed;
  few = subst (λ (n : ℕ). n ≤ suc (length older)) (sym hh) (healed_few (is_of a line) (is_end line) line was.healed (length older) v.few);
}

pub none_healing : (a : ℕ) (log : List Line) (x : Healing) → work a log ≡ [] → x.begun ≡ false → x.healed ≡ 0 → IsHealing a log x
none_healing a log x none hb hh = record { begun = hb ∙ sym (ap has_line none); healed = hh ∙ sym (ap heals_ended none); few = omega (arith, hh) }

-- the heal that is due, by what is kept
pub due_is : (list : List (Gfid × What)) (a : ℕ) (log : List Line) (x : Healing) (due : Option (Gfid × Kind)) → IsHealing a log x → due ≡ nth_heal list x.healed → due ≡ due_in list (work a log)
due_is list a log x due v e = e ∙ ap (λ (n : ℕ). nth_heal list n) v.healed ∙ sym (heals_get list (heals_ended (work a log)))

-- ---- a line
-- whether it asks for an index
pub index_is : (b y : BrickId) (a : ActorId) (asked : Request) (told : Told) (took : Bool) → is_index asked ≡ true → (y ≡ b → AsksIndex b (Ask a y asked told took)) × (AsksIndex b (Ask a y asked told took) → y ≡ b)
index_is b y a Index told took h = (λ k. k, λ k. k)
index_is b y a asked told took h = absurd (cc h)

pub no_index : (b y : BrickId) (a : ActorId) (asked : Request) (told : Told) (took : Bool) → is_index asked ≡ false → AsksIndex b (Ask a y asked told took) → ⊥
no_index b y a Index told took h k = absurd (cc h)
no_index b y a asked told took h k = k

-- it doesn't again, a Heal lock is of the heal that is due, and the others come while a heal is left
pub index_again : (list : List (Gfid × What)) (w : Work) (b : BrickId) (a : ActorId) (asked : Request) (told : Told) (took : Bool) → is_index asked ≡ true → HealsInTurn list (Ask a b asked told took) w → ⊥
index_again list w b a Index told took h k = k
index_again list w b a asked told took h k = absurd (cc h)

pub left_is : (list : List (Gfid × What)) (w : Work) (due : Option (Gfid × Kind)) → due ≡ due_in list w → (is_some due ≡ true → is_some (due_in list w) ≡ true) × (is_some (due_in list w) ≡ true → is_some due ≡ true)
left_is list w due e = (λ h. ap (λ (o : Option (Gfid × Kind)). is_some o) (sym e) ∙ h, λ h. ap (λ (o : Option (Gfid × Kind)). is_some o) e ∙ h)

pub heal_on : (list : List (Gfid × What)) (w : Work) (b : BrickId) (a : ActorId) (asked : Request) (told : Told) (took : Bool) (due : Option (Gfid × Kind)) → is_index asked ≡ false → None ≡ object_locked asked → due ≡ due_in list w
    → (is_some due ≡ true → HealsInTurn list (Ask a b asked told took) w) × (HealsInTurn list (Ask a b asked told took) w → is_some due ≡ true)
heal_on list w b a Index told took due h n e = absurd (cc h)
heal_on list w b a (Lock Heal area) told took due h n e = absurd (cc n)
heal_on list w b a asked told took due h n e = left_is list w due e

pub locked_healed : (asked : Request) (g : Gfid) → Some g ≡ object_locked asked → object_healed asked ≡ Some g
locked_healed (Lock Heal area) g h = sym h
locked_healed asked g h = absurd (cc h)

pub heal_locked : (list : List (Gfid × What)) (w : Work) (b : BrickId) (a : ActorId) (asked : Request) (told : Told) (took : Bool) (g : Gfid) → Some g ≡ object_locked asked
    → (IsOfHeal list asked w → HealsInTurn list (Ask a b asked told took) w) × (HealsInTurn list (Ask a b asked told took) w → IsOfHeal list asked w)
heal_locked list w b a (Lock Heal area) told took g h = (λ k. k, λ k. k)
heal_locked list w b a asked told took g h = absurd (cc h)

-- the first line of a round, and the later ones
pub first_line : (b : BrickId) (list : List (Gfid × What)) (line : Line) (w : Work) → has_line w ≡ false → (AsksIndex b line → KeepsToList b list line w) × (KeepsToList b list line w → AsksIndex b line)
first_line b list line [] h = (λ k. k, λ k. k)
first_line b list line (x ∷ w) h = absurd (cc h)

pub later_line : (b : BrickId) (list : List (Gfid × What)) (line : Line) (w : Work) → has_line w ≡ true → (HealsInTurn list line w → KeepsToList b list line w) × (KeepsToList b list line w → HealsInTurn list line w)
later_line b list line [] h = absurd (cc h)
later_line b list line (x ∷ w) h = (λ k. k, λ k. k)

-- the same heal is due
pub same_due : (one other x : Option (Gfid × Kind)) → one ≡ other → (one ≡ x → other ≡ x) × (other ≡ x → one ≡ x)
same_due one other x e = (λ h. sym e ∙ h, λ h. e ∙ h)

-- ---- the heal that is due
pub pair_due : (object g : Gfid) (within kind : Kind) → ((object ≡ g) × (within ≡ kind) → ◌≡◌ {A = Option (Gfid × Kind)} (Some (object, within)) (Some (g, kind))) × (◌≡◌ {A = Option (Gfid × Kind)} (Some (object, within)) (Some (g, kind)) → (object ≡ g) × (within ≡ kind))
pair_due object g within kind = (λ k. rw (k.0, k.1) refl, λ e. some_pair_parts object g within kind e)

pub heal_here : (list : List (Gfid × What)) (w : Work) (asked : Request) (due : Option (Gfid × Kind)) (object g : Gfid) (kind : Kind) → due ≡ Some (object, kind) → due ≡ due_in list w → object_healed asked ≡ Some g
    → (object ≡ g → IsOfHeal list asked w) × (IsOfHeal list asked w → object ≡ g)
heal_here list w asked due object g kind h e about = (
  λ same. record { object = object; kind = kind; due = sym e ∙ h; about = about ∙ ap Some (sym same) },
  λ k.
      let s = some_pair_parts object k.object kind k.kind (sym h ∙ e ∙ k.due) in
      s.0 ∙ same_Some k.object g (sym k.about ∙ about),
)

pub no_heal : (list : List (Gfid × What)) (w : Work) (asked : Request) (due : Option (Gfid × Kind)) → due ≡ None → due ≡ due_in list w → IsOfHeal list asked w → ⊥
no_heal list w asked due h e k =
    let no : None ≡ Some (k.object, k.kind) = sym h ∙ e ∙ k.due in
    absurd (cc no)
