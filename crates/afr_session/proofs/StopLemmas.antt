-- A brick that stops has no live session, and one that is stopped has none to end.
use Rattle.std.proofs.Common.{◌≡◌, ℕ, zero, suc, Bool, true, false, List, [], ◌∷◌, map, get_or, refl, sym}
use Rattle.afr_session.specs.Links.{IsSound, Links, ended, no_link}
use Rattle.afr_session.specs.declared.link.Link.{Link}

none_live : (links : List Link) (a : ℕ) → (get_or (map ended links) a no_link).live ≡ false
none_live [] a = refl
none_live (l ∷ ls) zero = refl
none_live (l ∷ ls) (suc a) = none_live ls a

not_both : (b : Bool) → b ≡ false → b ≡ true → ⊥
not_both b dead live = cc

pub stopped_sound : (links : List Link) → IsSound false (map ended links)
stopped_sound links = record { reached = λ a live. absurd (not_both _ (none_live links a) live) }

idle : (links : List Link) → IsSound false links → (a : ℕ) → (get_or links a no_link).live ≡ false
idle links sound a = by_live (get_or links a no_link).live (sound.reached a)
  where
    by_live : (live : Bool) → (live ≡ true → false ≡ true) → live ≡ false
    by_live true h = sym (h refl)
    by_live false h = refl

ended_same : (l : Link) → l.live ≡ false → ended l ≡ l
ended_same l dead = rw (← dead) refl

all_ended : (links : List Link) → ((a : ℕ) → (get_or links a no_link).live ≡ false) → map ended links ≡ links
all_ended [] dead = refl
all_ended (l ∷ ls) dead = rw (ended_same l (dead zero), all_ended ls (λ a. dead (suc a))) refl

pub stopped_same : (links : List Link) → IsSound false links → map ended links ≡ links
stopped_same links sound = all_ended links (idle links sound)

abbrev state : Bool → List Link → Links
state started links = record { started = started; each = links }

pub stopped_as_was : (started : Bool) (links : List Link) → IsSound started links → started ≡ false → state false (map ended links) ≡ state started links
stopped_as_was true links sound halted = absurd (cc)
stopped_as_was false links sound halted = rw (stopped_same links sound) refl
