-- What holds of every copy after one copy was changed, or an object made.
use Rattle.std.proofs.Common.{◌≡◌, ℕ, ◌==◌, Bool, true, false, refl, sym, ap, ◌∙◌, subst, Option, Some, None, ◌⊎◌, inl, inr, if◌then◌else◌}
use Rattle.std.proofs.lemmas.Bool.Decides.{eqb_tells}
use Rattle.std.specs.Prelude.{is_some}
use Rattle.std.specs.Option.{option_map}
use Rattle.afr_base.specs.declared.ids.Gfid.{Gfid}
use Rattle.afr_base.specs.declared.ids.What.{What}
use Rattle.afr_object.specs.Tables.{Table, copy_at, changed, made, new_object}
use Rattle.afr_object.specs.Object.{Object}
use Rattle.afr_object.specs.TablesLemmas.{copy_at-changed, copy_at-made}

-- ---- an object never goes
abbrev pub HasAll : Table → Table → Type 0
HasAll old new = (q : Gfid) → is_some (copy_at q old) ≡ true → is_some (copy_at q new) ≡ true

-- two gfids with one number are the same
pub gfid_is : (g q : Gfid) → g.0 ≡ q.0 → g ≡ q
gfid_is g q e = ap (λ (n : ℕ). record { 0 = n }) e

is_some-map : (f : Object → Object) (o : Option Object) → is_some o ≡ true → is_some (option_map f o) ≡ true
is_some-map f None h = h
is_some-map f (Some o) h = refl

pub stays_changed : (f : Object → Object) (g : Gfid) (t : Table) → HasAll t (changed f g (copy_at g t) t)
stays_changed f g t q h = rw (copy_at-changed f g q t) (split (eqb_tells g.0 q.0))
  where
    split : ((g.0 == q.0) ≡ true) × (g.0 ≡ q.0) ⊎ ((g.0 == q.0) ≡ false) × (g.0 ≡ q.0 → ⊥) → is_some (if g.0 == q.0 then option_map f (copy_at g t) else copy_at q t) ≡ true
    split (inl s) = rw s.0 (is_some-map f (copy_at g t) (subst (λ (k : Gfid). is_some (copy_at k t) ≡ true) (sym (gfid_is g q s.1)) h))
    split (inr s) = rw s.0 h

pub stays_made : (g : Gfid) (what : What) (t : Table) → HasAll t (made g what t)
stays_made g what t q h = rw (copy_at-made g q what t) (go (is_some (copy_at g t)) (g.0 == q.0))
  where
    go : (has same : Bool) → is_some (if has then copy_at q t else (if same then Some (new_object what) else copy_at q t)) ≡ true
    go true same = h
    go false true = refl
    go false false = h

-- ---- what holds of every copy
abbrev pub EachCopy : (Object → Type 0) → Table → Type 0
EachCopy P t = (g : Gfid) (o : Object) → copy_at g t ≡ Some o → P o

pub some_is : {A : Type 0} (x y : A) → Some x ≡ Some y → x ≡ y
some_is x y e = cc e

pub each_changed : (P Q : Object → Type 0) (f : Object → Object) → ((o : Object) → P o → Q (f o)) → ((o : Object) → P o → Q o) → (g : Gfid) (t : Table) → EachCopy P t → EachCopy Q (changed f g (copy_at g t) t)
each_changed P Q f new old g t all q w h = split (eqb_tells g.0 q.0)
  where
    found : (if g.0 == q.0 then option_map f (copy_at g t) else copy_at q t) ≡ Some w
    found = sym (copy_at-changed f g q t) ∙ h

    mapped : (o : Option Object) → copy_at g t ≡ o → option_map f o ≡ Some w → Q w
    mapped None e k = absurd (cc k)
    mapped (Some o) e k = subst Q (some_is (f o) w k) (new o (all g o e))

    split : ((g.0 == q.0) ≡ true) × (g.0 ≡ q.0) ⊎ ((g.0 == q.0) ≡ false) × (g.0 ≡ q.0 → ⊥) → Q w
    split (inl s) = mapped (copy_at g t) refl (rw s.0 at found)
    split (inr s) = old w (all q w (rw s.0 at found))

pub each_made : (P : Object → Type 0) (g : Gfid) (what : What) (t : Table) → P (new_object what) → EachCopy P t → EachCopy P (made g what t)
each_made P g what t new all q w h = go (is_some (copy_at g t)) (g.0 == q.0) (sym (copy_at-made g q what t) ∙ h)
  where
    go : (has same : Bool) → (if has then copy_at q t else (if same then Some (new_object what) else copy_at q t)) ≡ Some w → P w
    go true same e = all q w e
    go false true e = subst P (some_is (new_object what) w e) new
    go false false e = all q w e
