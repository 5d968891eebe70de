-- What leaves a copy's part of a kind as it is: every line but operations, and repairs of that kind.
use Rattle.std.proofs.Common.{Bool, ap, false, inl, inr, refl, subst, true, ℕ, ◌∙◌, ◌≡◌, ◌⊎◌, ◌&&◌, List, [], ◌∷◌, Option, None, Some, if◌then◌else◌, ◌==◌}
use Rattle.std.proofs.lemmas.Bool.Decides.{eqb_tells}
use Rattle.std.specs.Prelude.{is_some, take}
use Rattle.std.specs.Option.{option_map}
use Rattle.afr_base.specs.Marks.{closed_op, dirtied, taken_back}
use Rattle.afr_base.specs.declared.marks.Marks.{Marks}
use Rattle.afr_base.specs.declared.ids.ActorId.{ActorId}
use Rattle.afr_base.specs.declared.ids.BrickId.{BrickId}
use Rattle.afr_base.specs.declared.ids.Gfid.{Gfid}
use Rattle.afr_base.specs.declared.ids.KeyId.{KeyId}
use Rattle.afr_base.specs.declared.ids.Kind.{Kind}
use Rattle.afr_base.specs.declared.ids.Kind.TheVariants.{Attrs, Bytes, Names}
use Rattle.afr_base.specs.declared.ids.NameId.{NameId}
use Rattle.afr_base.specs.declared.ids.ValueId.{ValueId}
use Rattle.afr_base.specs.declared.ids.What.{What}
use Rattle.afr_object.specs.Bytes.{copied_in}
use Rattle.afr_lines.specs.declared.answer.Told.{Told}
use Rattle.afr_lines.specs.declared.line.Line.{Line}
use Rattle.afr_lines.specs.declared.line.Line.TheVariants.{Ask, Begin, End, Event, HealBegin, HealEnd}
use Rattle.afr_lines.specs.declared.request.Request.{Request}
use Rattle.afr_lines.specs.declared.request.Request.TheVariants as request
use Rattle.afr_object.specs.Repairs.{Contents, all_made, mended, renamed, with_attrs}
use Rattle.afr_object.specs.Repairs as contents
use Rattle.afr_object.specs.Tables.{Table, changed, copy_at, is_dir, is_file, made, new_object, with_bytes, with_copy, with_names, with_numbers}
use Rattle.afr_object.specs.declared.change.Repair.{Repair}
use Rattle.afr_object.specs.declared.change.Repair.TheVariants.{Copy, CutTo, PutAttrs, PutNames}
use Rattle.afr_object.specs.declared.entry.Entry.{Entry}
use Rattle.afr_object.specs.Object.{Object}
use Rattle.afr_plan.specs.declared.plan.Plan.{Plan}
use Rattle.afr_object.specs.TablesLemmas.{copy_at-changed, copy_at-made}
use Rattle.afr_model.specs.Tables.{Past, asked, carried, holds, keeps_bytes, tables}
use Rattle.afr_law_tables.specs.CopyLaws.{gfid_is}
use Rattle.afr_model_moves.specs.Past as position
use Rattle.afr_model_moves.specs.Rules.{repair_kind}
use Rattle.afr_law_passes.specs.Converged.{HasPart, contents_in}

-- the sort of an object, and what it has of a kind
abbrev pub part_in : Kind → Object → What × Contents
part_in kind o = (o.what, contents_in kind o)

-- the same of a table
abbrev pub PartIn : Table → Gfid → Kind → What × Contents → Type 0
PartIn t g kind part = (o : Object) × (copy_at g t ≡ Some o) × (part_in kind o ≡ part)

-- ---- the objects that a change makes have the part that they had
numbers_part : (kind k : Kind) (f : Marks → Marks) (o : Object) → part_in kind (with_numbers k f o) ≡ part_in kind o
numbers_part Bytes k f o = refl
numbers_part Attrs k f o = refl
numbers_part Names k f o = refl

bytes_part : (kind : Kind) (keeps : Bool) (f : List ℕ → List ℕ) → (kind ≡ Bytes → ⊥) → (o : Object) → part_in kind (with_bytes keeps f o) ≡ part_in kind o
bytes_part kind keeps f other o = go kind other (keeps && is_file o.what)
  where
    go : (kind : Kind) → (kind ≡ Bytes → ⊥) → (b : Bool) → part_in kind (if b then record o { content = f o.content } else o) ≡ part_in kind o
    go Bytes none b = absurd (none refl)
    go Attrs none true = refl
    go Attrs none false = refl
    go Names none true = refl
    go Names none false = refl

attrs_part : (kind : Kind) (attrs : List (KeyId × ValueId)) → (kind ≡ Attrs → ⊥) → (o : Object) → part_in kind (with_attrs attrs o) ≡ part_in kind o
attrs_part Attrs attrs other o = absurd (other refl)
attrs_part Bytes attrs other o = refl
attrs_part Names attrs other o = refl

names_part : (kind : Kind) (names : List (NameId × Entry)) → (kind ≡ Names → ⊥) → (o : Object) → part_in kind (with_names (λ old. names) o) ≡ part_in kind o
names_part kind names other o = go kind other (is_dir o.what)
  where
    go : (kind : Kind) → (kind ≡ Names → ⊥) → (b : Bool) → part_in kind (if b then record o { names = names } else o) ≡ part_in kind o
    go Names none b = absurd (none refl)
    go Attrs none true = refl
    go Attrs none false = refl
    go Bytes none true = refl
    go Bytes none false = refl

-- ---- a change of an object
part_changed : (kind : Kind) (f : Object → Object) (h g : Gfid) (t : Table) (m : What × Contents) → (h.0 ≡ g.0 → (o : Object) → part_in kind (f o) ≡ part_in kind o) → PartIn t g kind m → PartIn (changed f h (copy_at h t) t) g kind m
part_changed kind f h g t m same (o, there, part) = split (eqb_tells h.0 g.0)
  where
    split : ((h.0 == g.0) ≡ true) × (h.0 ≡ g.0) ⊎ ((h.0 == g.0) ≡ false) × (h.0 ≡ g.0 → ⊥) → PartIn (changed f h (copy_at h t) t) g kind m
    split (inl e) = (f o, copy_at-changed f h g t ∙ ap (λ (b : Bool). if b then option_map f (copy_at h t) else copy_at g t) e.0 ∙ ap (λ (k : Gfid). option_map f (copy_at k t)) (gfid_is h g e.1) ∙ ap (option_map f) there, same e.1 o ∙ part)
    split (inr e) = (o, copy_at-changed f h g t ∙ ap (λ (b : Bool). if b then option_map f (copy_at h t) else copy_at g t) e.0 ∙ there, part)

part_made : (kind : Kind) (h g : Gfid) (what : What) (t : Table) (m : What × Contents) → PartIn t g kind m → PartIn (made h what t) g kind m
part_made kind h g what t m (o, there, part) = split (eqb_tells h.0 g.0)
  where
    was : is_some (copy_at g t) ≡ true
    was = ap (λ (x : Option Object). is_some x) there

    go : (some : Bool) → (if some then copy_at g t else (if false then Some (new_object what) else copy_at g t)) ≡ Some o
    go true = there
    go false = there

    split : ((h.0 == g.0) ≡ true) × (h.0 ≡ g.0) ⊎ ((h.0 == g.0) ≡ false) × (h.0 ≡ g.0 → ⊥) → PartIn (made h what t) g kind m
    split (inl e) = (o, copy_at-made h g what t ∙ ap (λ (b : Bool). if b then copy_at g t else (if h.0 == g.0 then Some (new_object what) else copy_at g t)) (ap (λ (k : Gfid). is_some (copy_at k t)) (gfid_is h g e.1) ∙ was) ∙ there, part)
    split (inr e) = (o, copy_at-made h g what t ∙ ap (λ (b : Bool). if is_some (copy_at h t) then copy_at g t else (if b then Some (new_object what) else copy_at g t)) e.0 ∙ go (is_some (copy_at h t)), part)

part_all_made : (kind : Kind) (names : List (NameId × Entry)) (g : Gfid) (t : Table) (m : What × Contents) → PartIn t g kind m → PartIn (all_made names t) g kind m
part_all_made kind [] g t m h = h
part_all_made kind (x ∷ names) g t m h = part_made kind x.1.gfid g x.1.what (all_made names t) m (part_all_made kind names g t m h)

part_renamed : (kind : Kind) (names : List (NameId × Entry)) (h g : Gfid) (t : Table) (m : What × Contents) → (h.0 ≡ g.0 → kind ≡ Names → ⊥) → PartIn t g kind m → PartIn (renamed names h (copy_at h t) t) g kind m
part_renamed kind names h g t m other q = go (copy_at h t) refl
  where
    f : Object → Object
    f o = with_names (λ old. names) o

    go : (o : Option Object) → copy_at h t ≡ o → PartIn (renamed names h o t) g kind m
    go None e = q
    go (Some o) e = (
        let kept : PartIn (changed f h (copy_at h t) t) g kind m = part_changed kind f h g t m (λ is. names_part kind names (other is)) q in
        part_all_made kind names g (with_copy h (f o) t) m (subst (λ c. PartIn (changed f h c t) g kind m) e kept)
        )

-- the repair is of another object, or of another kind
abbrev pub IsAside : Gfid → Kind → Repair → Type 0
IsAside g kind repair = position.repaired repair ≡ g.0 → kind ≡ repair_kind repair → ⊥

part_mended : (kind : Kind) (keeps : Bool) (repair : Repair) (c : Contents) (g : Gfid) (t : Table) (m : What × Contents) → IsAside g kind repair → PartIn t g kind m → PartIn (mended keeps repair c t) g kind m
part_mended kind keeps (CutTo h len) c g t m other q = part_changed kind (with_bytes keeps (take len)) h g t m (λ e. bytes_part kind keeps (take len) (other e)) q
part_mended kind keeps (Copy h at span read) (contents.Bytes bytes) g t m other q = part_changed kind (with_bytes keeps (copied_in at span bytes)) h g t m (λ e. bytes_part kind keeps (copied_in at span bytes) (other e)) q
part_mended kind keeps (PutAttrs h read) (contents.Attrs attrs) g t m other q = part_changed kind (with_attrs attrs) h g t m (λ e. attrs_part kind attrs (other e)) q
part_mended kind keeps (PutNames h reads) (contents.Names names) g t m other q = part_renamed kind names h g t m other q
part_mended kind keeps repair c g t m other q = q

-- ---- a line
-- a request that leaves the part
abbrev LeavesPart : Gfid → Kind → Request → Type 0
LeavesPart g kind (request.Apply q) = ⊥
LeavesPart g kind (request.Mend repair) = IsAside g kind repair
LeavesPart g kind r = Unit {0}

part_asked : (kind : Kind) (keeps : Bool) (r : Request) (older : List Line) (past : Past) (g : Gfid) (t : Table) (m : What × Contents) → LeavesPart g kind r → PartIn t g kind m → PartIn (asked keeps r older past t) g kind m
part_asked kind keeps (request.Apply q) older past g t m s h = absurd s
part_asked kind keeps (request.Mend repair) older past g t m s h = part_mended kind keeps repair (carried past older repair) g t m s h
part_asked kind keeps (request.Pre i k) older past g t m s h = part_changed kind (with_numbers k dirtied) i g t m (λ e. numbers_part kind k dirtied) h
part_asked kind keeps (request.Post attempt i k missed) older past g t m s h = part_changed kind (with_numbers k (closed_op missed)) i g t m (λ e. numbers_part kind k (closed_op missed)) h
part_asked kind keeps (request.Settle i k less) older past g t m s h = part_changed kind (with_numbers k (taken_back less)) i g t m (λ e. numbers_part kind k (taken_back less)) h
part_asked kind keeps r older past g t m s h = h

-- a line that leaves the numbers and the part of the object and kind
abbrev pub Spares : Gfid → Kind → Line → Type 0
Spares g kind (Ask x y (request.Apply q) told took) = ⊥
Spares g kind (Ask x y (request.Post attempt i k missed) told took) = ⊥
Spares g kind (Ask x y (request.Mend repair) told took) = IsAside g kind repair
Spares g kind (Ask x y (request.Pre i k) told took) = i.0 ≡ g.0 → k ≡ kind → ⊥
Spares g kind (Ask x y (request.Settle i k less) told took) = i.0 ≡ g.0 → k ≡ kind → ⊥
Spares g kind line = Unit {0}

spares_part : (g : Gfid) (kind : Kind) (x : ActorId) (y : BrickId) (r : Request) (told : Told) (took : Bool) → Spares g kind (Ask x y r told took) → LeavesPart g kind r
spares_part g kind x y (request.Apply q) told took s = s
spares_part g kind x y (request.Post attempt i k missed) told took s = tt
spares_part g kind x y (request.Mend repair) told took s = s
spares_part g kind x y (request.Pre i k) told took s = tt
spares_part g kind x y (request.Settle i k less) told took s = tt
spares_part g kind x y (request.Lock domain area) told took s = tt
spares_part g kind x y (request.Unlock domain area) told took s = tt
spares_part g kind x y (request.Look i) told took s = tt
spares_part g kind x y (request.ReadBytes i at len) told took s = tt
spares_part g kind x y (request.ReadName i name) told took s = tt
spares_part g kind x y (request.List i) told took s = tt
spares_part g kind x y (request.ReadAttr i key) told took s = tt
spares_part g kind x y (request.ReadAttrs i) told took s = tt
spares_part g kind x y request.Index told took s = tt

pub part_on : (p : Plan) (line : Line) (older : List Line) (g : Gfid) (kind : Kind) (b : ℕ) (m : What × Contents) → Spares g kind line → HasPart p older b g kind m → HasPart p (line ∷ older) b g kind m
part_on p (Ask x y r told took) older g kind b m s h = go took (y.0 == b)
  where
    go : (done here : Bool) → PartIn (if done then (if here then asked (keeps_bytes p b) r older (tables p older).past (holds p older b) else holds p older b) else holds p older b) g kind m
    go true true = part_asked kind (keeps_bytes p b) r older (tables p older).past g (holds p older b) m (spares_part g kind x y r told took s) h
    go true false = h
    go false here = h
part_on p (Begin x change) older g kind b m s h = h
part_on p (HealBegin x i k) older g kind b m s h = h
part_on p (End x said) older g kind b m s h = h
part_on p (HealEnd x i k said) older g kind b m s h = h
part_on p (Event e) older g kind b m s h = h
