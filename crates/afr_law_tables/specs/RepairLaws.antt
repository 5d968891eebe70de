-- What holds of every copy after a repair.
use Rattle.std.proofs.Common.{◌≡◌, Bool, List, [], ◌∷◌, refl, Option, Some, None, take}
use Rattle.std.specs.Prelude.{ℕ}
use Rattle.afr_base.specs.declared.ids.Gfid.{Gfid}
use Rattle.afr_base.specs.declared.ids.KeyId.{KeyId}
use Rattle.afr_base.specs.declared.ids.NameId.{NameId}
use Rattle.afr_base.specs.declared.ids.ValueId.{ValueId}
use Rattle.afr_base.specs.declared.ids.What.{What}
use Rattle.afr_object.specs.Bytes.{copied_in}
use Rattle.afr_object.specs.Repairs.{Contents, all_made, mended, renamed, with_attrs}
use Rattle.afr_object.specs.Repairs as contents
use Rattle.afr_object.specs.Tables.{Table, changed, copy_at, new_object, with_bytes, with_copy, with_names}
use Rattle.afr_object.specs.declared.change.Repair.{Repair}
use Rattle.afr_object.specs.declared.change.Repair.TheVariants.{CutTo, Copy, PutAttrs, PutNames}
use Rattle.afr_object.specs.declared.entry.Entry.{Entry}
use Rattle.afr_object.specs.Object.{Object}
use Rattle.afr_law_tables.specs.CopyLaws.{HasAll, EachCopy, stays_changed, stays_made, each_changed, each_made}

-- ---- an object never goes
stays_all_made : (names : List (NameId × Entry)) (t : Table) → HasAll t (all_made names t)
stays_all_made [] t q h = h
stays_all_made (x ∷ names) t q h = stays_made x.1.gfid x.1.what (all_made names t) q (stays_all_made names t q h)

stays_renamed : (names : List (NameId × Entry)) (g : Gfid) (t : Table) → HasAll t (renamed names g (copy_at g t) t)
stays_renamed names g t = go (copy_at g t) refl
  where
    f : Object → Object
    f o = with_names (λ old. names) o

    go : (o : Option Object) → copy_at g t ≡ o → HasAll t (renamed names g o t)
    go None e q h = h
    go (Some o) e q h = let kept = stays_changed f g t q h in stays_all_made names (with_copy g (f o) t) q (rw e at kept)

-- an object stays through every repair
pub stays_mended : (keeps : Bool) (repair : Repair) (c : Contents) (t : Table) → HasAll t (mended keeps repair c t)
stays_mended keeps (CutTo g len) c t q h = stays_changed (with_bytes keeps (take len)) g t q h
stays_mended keeps (Copy g at span read) (contents.Bytes bytes) t q h = stays_changed (with_bytes keeps (copied_in at span bytes)) g t q h
stays_mended keeps (PutAttrs g read) (contents.Attrs attrs) t q h = stays_changed (with_attrs attrs) g t q h
stays_mended keeps (PutNames g reads) (contents.Names names) t q h = stays_renamed names g t q h
stays_mended keeps repair c t q h = h

-- ---- what holds of every copy
each_all_made : (P : Object → Type 0) → ((what : What) → P (new_object what)) → (names : List (NameId × Entry)) (t : Table) → EachCopy P t → EachCopy P (all_made names t)
each_all_made P new [] t all = all
each_all_made P new (x ∷ names) t all = each_made P x.1.gfid x.1.what (all_made names t) (new x.1.what) (each_all_made P new names t all)

each_renamed : (P : Object → Type 0) → ((what : What) → P (new_object what)) → (names : List (NameId × Entry)) → ((o : Object) → P o → P (with_names (λ old. names) o)) → (g : Gfid) (t : Table) → EachCopy P t
    → EachCopy P (renamed names g (copy_at g t) t)
each_renamed P new names named g t all = go (copy_at g t) refl
  where
    f : Object → Object
    f o = with_names (λ old. names) o

    go : (o : Option Object) → copy_at g t ≡ o → EachCopy P (renamed names g o t)
    go None e = all
    go (Some o) e =
        let kept : EachCopy P (changed f g (copy_at g t) t) = each_changed P P f named (λ o h. h) g t all in
        each_all_made P new names (with_copy g (f o) t) (rw e at kept)

-- a fact of every copy that new objects have, and that new bytes, attributes and the names of these contents keep
pub each_mended : (P : Object → Type 0) → ((what : What) → P (new_object what)) → ((keeps : Bool) (f : List ℕ → List ℕ) (o : Object) → P o → P (with_bytes keeps f o))
    → ((attrs : List (KeyId × ValueId)) (o : Object) → P o → P (with_attrs attrs o)) → (c : Contents) → ((names : List (NameId × Entry)) → c ≡ contents.Names names → (o : Object) → P o → P (with_names (λ old. names) o))
    → (keeps : Bool) (repair : Repair) (t : Table) → EachCopy P t → EachCopy P (mended keeps repair c t)
each_mended P new bytes attrs c names keeps (CutTo g len) t all = each_changed P P (with_bytes keeps (take len)) (bytes keeps (take len)) (λ o h. h) g t all
each_mended P new bytes attrs (contents.Bytes b) names keeps (Copy g at span read) t all =
    each_changed P P (with_bytes keeps (copied_in at span b)) (bytes keeps (copied_in at span b)) (λ o h. h) g t all
each_mended P new bytes attrs (contents.Attrs a) names keeps (PutAttrs g read) t all = each_changed P P (with_attrs a) (attrs a) (λ o h. h) g t all
each_mended P new bytes attrs (contents.Names n) names keeps (PutNames g reads) t all = each_renamed P new n (names n refl) g t all
each_mended P new bytes attrs c names keeps repair t all = all
