-- What leaves the length of a copy: every line but operations, and repairs of its bytes.
use Rattle.std.proofs.Common.{Bool, ap, false, inl, inr, refl, subst, sym, true, ℕ, ◌∙◌, ◌≡◌, ◌⊎◌, List, [], ◌∷◌, length, Option, None, Some, if◌then◌else◌, ◌==◌}
use Rattle.std.proofs.lemmas.Bool.Decides.{eqb_tells}
use Rattle.std.specs.Prelude.{is_some, take}
use Rattle.std.specs.Option.{option_map}
use Rattle.afr_base.specs.Marks.{closed_op, dirtied, taken_back}
use Rattle.afr_base.specs.declared.ids.ActorId.{ActorId}
use Rattle.afr_base.specs.declared.ids.BrickId.{BrickId}
use Rattle.afr_lines.specs.declared.answer.Told.{Told}
use Rattle.afr_base.specs.declared.ids.Gfid.{Gfid}
use Rattle.afr_base.specs.declared.ids.Kind.TheVariants.{Bytes}
use Rattle.afr_base.specs.declared.ids.NameId.{NameId}
use Rattle.afr_base.specs.declared.ids.What.{What}
use Rattle.afr_object.specs.Bytes.{copied_in}
use Rattle.afr_object.specs.Repairs.{Contents, all_made, mended, renamed, with_attrs}
use Rattle.afr_object.specs.Repairs as contents
use Rattle.afr_object.specs.Tables.{Table, changed, copy_at, is_dir, made, new_object, with_bytes, with_copy, with_names, with_numbers}
use Rattle.afr_object.specs.declared.change.Repair.{Repair}
use Rattle.afr_object.specs.declared.change.Repair.TheVariants.{Copy, CutTo, PutAttrs, PutNames}
use Rattle.afr_object.specs.declared.entry.Entry.{Entry}
use Rattle.afr_object.specs.Object.{Object}
use Rattle.afr_lines.specs.declared.line.Line.{Line}
use Rattle.afr_lines.specs.declared.line.Line.TheVariants.{Ask, Begin, End, Event, HealBegin, HealEnd}
use Rattle.afr_lines.specs.declared.request.Request.{Request}
use Rattle.afr_lines.specs.declared.request.Request.TheVariants as request
use Rattle.afr_plan.specs.declared.plan.Plan.{Plan}
use Rattle.afr_object.specs.TablesLemmas.{copy_at-changed, copy_at-made}
use Rattle.afr_model.specs.Tables.{Past, asked, carried, holds, keeps_bytes, tables}
use Rattle.afr_law_tables.specs.CopyLaws.{gfid_is}
use Rattle.afr_model_moves.specs.Past as position
use Rattle.afr_model_moves.specs.Rules.{repair_kind}
use Rattle.afr_law_quiet.proofs.Copies.After.{Spares}

-- there is a copy, and it has this length
abbrev pub HasLength : Table → Gfid → ℕ → Type 0
HasLength t g m = (o : Object) × (copy_at g t ≡ Some o) × (length o.content ≡ m)

-- a copy of another length than asked can't be
pub same_length : (t : Table) (g : Gfid) (m : ℕ) (o : Object) → HasLength t g m → copy_at g t ≡ Some o → length o.content ≡ m
same_length t g m o h e = (let same : o ≡ h.0 = cc (sym e ∙ h.1) in ap (λ (x : Object). length x.content) same ∙ h.2)

len_changed : (f : Object → Object) → ((o : Object) → (f o).content ≡ o.content) → (h g : Gfid) (t : Table) (m : ℕ) → HasLength t g m → HasLength (changed f h (copy_at h t) t) g m
len_changed f same h g t m (o, there, long) = split (eqb_tells h.0 g.0)
  where
    split : ((h.0 == g.0) ≡ true) × (h.0 ≡ g.0) ⊎ ((h.0 == g.0) ≡ false) × (h.0 ≡ g.0 → ⊥) → HasLength (changed f h (copy_at h t) t) g m
    split (inl e) = (f o, copy_at-changed f h g t ∙ ap (λ (b : Bool). if b then option_map f (copy_at h t) else copy_at g t) e.0 ∙ ap (λ (k : Gfid). option_map f (copy_at k t)) (gfid_is h g e.1) ∙ ap (option_map f) there, ap (λ (c : List ℕ). length c) (same o) ∙ long)
    split (inr e) = (o, copy_at-changed f h g t ∙ ap (λ (b : Bool). if b then option_map f (copy_at h t) else copy_at g t) e.0 ∙ there, long)

len_other : (f : Object → Object) (h g : Gfid) (t : Table) (m : ℕ) → (h.0 ≡ g.0 → ⊥) → HasLength t g m → HasLength (changed f h (copy_at h t) t) g m
len_other f h g t m other (o, there, long) = split (eqb_tells h.0 g.0)
  where
    split : ((h.0 == g.0) ≡ true) × (h.0 ≡ g.0) ⊎ ((h.0 == g.0) ≡ false) × (h.0 ≡ g.0 → ⊥) → HasLength (changed f h (copy_at h t) t) g m
    split (inl e) = absurd (other e.1)
    split (inr e) = (o, copy_at-changed f h g t ∙ ap (λ (b : Bool). if b then option_map f (copy_at h t) else copy_at g t) e.0 ∙ there, long)

len_made : (h g : Gfid) (what : What) (t : Table) (m : ℕ) → HasLength t g m → HasLength (made h what t) g m
len_made h g what t m (o, there, long) = split (eqb_tells h.0 g.0)
  where
    was : is_some (copy_at g t) ≡ true
    was = ap (λ (x : Option Object). is_some x) there

    go : (some : Bool) → (if some then copy_at g t else (if false then Some (new_object what) else copy_at g t)) ≡ Some o
    go true = there
    go false = there

    split : ((h.0 == g.0) ≡ true) × (h.0 ≡ g.0) ⊎ ((h.0 == g.0) ≡ false) × (h.0 ≡ g.0 → ⊥) → HasLength (made h what t) g m
    split (inl e) = (o, copy_at-made h g what t ∙ ap (λ (b : Bool). if b then copy_at g t else (if h.0 == g.0 then Some (new_object what) else copy_at g t)) (ap (λ (k : Gfid). is_some (copy_at k t)) (gfid_is h g e.1) ∙ was) ∙ there, long)
    split (inr e) = (o, copy_at-made h g what t ∙ ap (λ (b : Bool). if is_some (copy_at h t) then copy_at g t else (if b then Some (new_object what) else copy_at g t)) e.0 ∙ go (is_some (copy_at h t)), long)

len_all_made : (names : List (NameId × Entry)) (g : Gfid) (t : Table) (m : ℕ) → HasLength t g m → HasLength (all_made names t) g m
len_all_made [] g t m h = h
len_all_made (x ∷ names) g t m h = len_made x.1.gfid g x.1.what (all_made names t) m (len_all_made names g t m h)

names_content : (names : List (NameId × Entry)) (o : Object) → (with_names (λ old. names) o).content ≡ o.content
names_content names o = go (is_dir o.what)
  where
    go : (b : Bool) → (if b then record o { names = names } else o).content ≡ o.content
    go true = refl
    go false = refl

len_renamed : (names : List (NameId × Entry)) (h g : Gfid) (t : Table) (m : ℕ) → HasLength t g m → HasLength (renamed names h (copy_at h t) t) g m
len_renamed names h g t m q = go (copy_at h t) refl
  where
    f : Object → Object
    f o = with_names (λ old. names) o

    go : (o : Option Object) → copy_at h t ≡ o → HasLength (renamed names h o t) g m
    go None e = q
    go (Some o) e = (
        let kept : HasLength (changed f h (copy_at h t) t) g m = len_changed f (names_content names) h g t m q in
        len_all_made names g (with_copy h (f o) t) m (subst (λ c. HasLength (changed f h c t) g m) e kept)
        )

len_mended : (keeps : Bool) (repair : Repair) (c : Contents) (g : Gfid) (t : Table) (m : ℕ) → (position.repaired repair ≡ g.0 → repair_kind repair ≡ Bytes → ⊥) → HasLength t g m → HasLength (mended keeps repair c t) g m
len_mended keeps (CutTo h len) c g t m other q = len_other (with_bytes keeps (take len)) h g t m (λ e. other e refl) q
len_mended keeps (Copy h at span read) (contents.Bytes bytes) g t m other q = len_other (with_bytes keeps (copied_in at span bytes)) h g t m (λ e. other e refl) q
len_mended keeps (PutAttrs h read) (contents.Attrs attrs) g t m other q = len_changed (with_attrs attrs) (λ o. refl) h g t m q
len_mended keeps (PutNames h reads) (contents.Names names) g t m other q = len_renamed names h g t m q
len_mended keeps repair c g t m other q = q

-- a request that leaves the bytes of an object
abbrev SparesAsked : Gfid → Request → Type 0
SparesAsked g (request.Apply q) = ⊥
SparesAsked g (request.Mend repair) = position.repaired repair ≡ g.0 → repair_kind repair ≡ Bytes → ⊥
SparesAsked g r = Unit {0}

len_asked : (keeps : Bool) (r : Request) (older : List Line) (past : Past) (g : Gfid) (t : Table) (m : ℕ) → SparesAsked g r → HasLength t g m → HasLength (asked keeps r older past t) g m
len_asked keeps (request.Apply q) older past g t m s h = absurd s
len_asked keeps (request.Mend repair) older past g t m s h = len_mended keeps repair (carried past older repair) g t m s h
len_asked keeps (request.Pre i kind) older past g t m s h = len_changed (with_numbers kind dirtied) (λ o. refl) i g t m h
len_asked keeps (request.Post attempt i kind missed) older past g t m s h = len_changed (with_numbers kind (closed_op missed)) (λ o. refl) i g t m h
len_asked keeps (request.Settle i kind less) older past g t m s h = len_changed (with_numbers kind (taken_back less)) (λ o. refl) i g t m h
len_asked keeps r older past g t m s h = h

spares_asked : (g : Gfid) (x : ActorId) (y : BrickId) (r : Request) (told : Told) (took : Bool) → Spares Bytes g (Ask x y r told took) → SparesAsked g r
spares_asked g x y (request.Apply q) told took s = s
spares_asked g x y (request.Mend repair) told took s = s refl
spares_asked g x y (request.Lock domain area) told took s = tt
spares_asked g x y (request.Unlock domain area) told took s = tt
spares_asked g x y (request.Look i) told took s = tt
spares_asked g x y (request.ReadBytes i at len) told took s = tt
spares_asked g x y (request.ReadName i name) told took s = tt
spares_asked g x y (request.List i) told took s = tt
spares_asked g x y (request.ReadAttr i key) told took s = tt
spares_asked g x y (request.ReadAttrs i) told took s = tt
spares_asked g x y request.Index told took s = tt
spares_asked g x y (request.Pre i kind) told took s = tt
spares_asked g x y (request.Post attempt i kind missed) told took s = tt
spares_asked g x y (request.Settle i kind less) told took s = tt

-- a line that spares the bytes of an object leaves the length of each copy
pub len_on : (p : Plan) (line : Line) (older : List Line) (g : Gfid) (b m : ℕ) → Spares Bytes g line → HasLength (holds p older b) g m → HasLength (holds p (line ∷ older) b) g m
len_on p (Ask x y r told took) older g b m s h = go took (y.0 == b)
  where
    go : (done here : Bool) → HasLength (if done then (if here then asked (keeps_bytes p b) r older (tables p older).past (holds p older b) else holds p older b) else holds p older b) g m
    go true true = len_asked (keeps_bytes p b) r older (tables p older).past g (holds p older b) m (spares_asked g x y r told took s) h
    go true false = h
    go false here = h
len_on p (Begin x change) older g b m s h = h
len_on p (HealBegin x i kind) older g b m s h = h
len_on p (End x reply) older g b m s h = absurd s
len_on p (HealEnd x i kind reply) older g b m s h = h
len_on p (Event e) older g b m s h = h
