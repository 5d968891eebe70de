-- What the lines of a heal of bytes leave of the copies of its object.
use Rattle.std.proofs.Common.{◌≡◌, ℕ, ◌+◌, ◌<◌, ◌≤◌, Bool, true, false, ◌⊎◌, inl, inr, refl, sym, ap, ◌∙◌, arith, true≢false, List, [], ◌∷◌, length, max, take}
use Rattle.std.specs.Prelude.{Option, None, Some, if◌then◌else◌, ◌==◌}
use Rattle.std.specs.Option.{option_map}
use Rattle.std.proofs.lemmas.Bool.{eqb-true}
use Rattle.std.proofs.lemmas.List.{length-take}
use Rattle.afr_base.specs.declared.ids.Gfid.{Gfid}
use Rattle.afr_base.specs.declared.ids.What.{What}
use Rattle.afr_base.specs.declared.ids.What.TheVariants.{Dir, File}
use Rattle.afr_object.specs.TablesLemmas.{copy_at-changed}
use Rattle.afr_object.specs.Bytes.{written}
use Rattle.afr_object.specs.BytesLemmas.{length-written}
use Rattle.afr_object.specs.Tables.{Table, changed, copy_at, is_file, with_bytes}
use Rattle.afr_object.specs.Object.{Object}
use Rattle.afr_lines.specs.declared.line.Line.{Line}
use Rattle.afr_model.specs.Tables.{content_in, holds}
use Rattle.afr_model_moves.proofs.Tests.{same_self}
use Rattle.afr_plan.specs.declared.plan.Plan.{Plan}

-- the copy of an object on a brick, and how many bytes it has
abbrev pub copy_of : Plan → List Line → ℕ → ℕ → Option Object
copy_of p log g x = copy_at (record { 0 = g }) (holds p log x)

abbrev pub len_at : Plan → List Line → ℕ → ℕ → ℕ
len_at p log g x = length (content_in (copy_of p log g x))

-- a line that changes no table
pub unchanged : (took hit : Bool) (t : Table) → (if took then (if hit then t else t) else t) ≡ t
unchanged true true t = refl
unchanged true false t = refl
unchanged false hit t = refl

-- a line that changes one copy on one brick
pub altered : (f : Object → Object) (took hit : Bool) (h g : Gfid) (t : Table)
    → (copy_at g (if took then (if hit then changed f h (copy_at h t) t else t) else t) ≡ copy_at g t)
    ⊎ ((took ≡ true) × (hit ≡ true) × (copy_at g (if took then (if hit then changed f h (copy_at h t) t else t) else t) ≡ option_map f (copy_at g t)))
altered f false hit h g t = inl refl
altered f true false h g t = inl refl
altered f true true h g t = go (h.0 == g.0) refl (copy_at-changed f h g t)
  where
    go : (same : Bool) → (h.0 == g.0) ≡ same → copy_at g (changed f h (copy_at h t) t) ≡ (if same then option_map f (copy_at h t) else copy_at g t)
        → (copy_at g (changed f h (copy_at h t) t) ≡ copy_at g t) ⊎ ((true ≡ true) × (true ≡ true) × (copy_at g (changed f h (copy_at h t) t) ≡ option_map f (copy_at g t)))
    go true e k = inr (refl, refl, k ∙ ap (λ (q : ℕ). option_map f (copy_at (record { 0 = q }) t)) (eqb-true h.0 g.0 e))
    go false e k = inl k

-- and does so there
pub altered_there : (f : Object → Object) (g : Gfid) (t : Table) → copy_at g (changed f g (copy_at g t) t) ≡ option_map f (copy_at g t)
altered_there f g t = go (g.0 == g.0) refl (copy_at-changed f g g t)
  where
    go : (same : Bool) → (g.0 == g.0) ≡ same → copy_at g (changed f g (copy_at g t) t) ≡ (if same then option_map f (copy_at g t) else copy_at g t) → copy_at g (changed f g (copy_at g t) t) ≡ option_map f (copy_at g t)
    go true e k = k
    go false e k = absurd (no g.0 e)
      where
        no : (n : ℕ) → (n == n) ≡ false → ⊥
        no n e = true≢false (sym (same_self n) ∙ e)

pub altered_here : (f : Object → Object) (took : Bool) (b : ℕ) (h g : Gfid) (t : Table) → took ≡ true → h ≡ g → copy_at g (if took then (if b == b then changed f h (copy_at h t) t else t) else t) ≡ option_map f (copy_at g t)
altered_here f took b h g t carried e = rw (carried, same_self b, e) (altered_there f g t)

-- the bytes of a copy that a change leaves as they are
pub content_kept : (f : Object → Object) → ((o : Object) → (f o).content ≡ o.content) → (o : Option Object) → content_in (option_map f o) ≡ content_in o
content_kept f same None = refl
content_kept f same (Some o) = same o

-- a directory has no bytes
abbrev pub IsBare : Object → Type 0
IsBare o = o.what ≡ Dir → o.content ≡ []

-- a copy that was cut is no longer than the cut
pub cut_length : (len : ℕ) (o : Object) → IsBare o → length (with_bytes true (take len) o).content ≤ len
cut_length len o bare = go (is_file o.what) refl
  where
    dir : (w : What) → is_file w ≡ false → w ≡ Dir
    dir Dir e = refl
    dir File e = absurd (true≢false e)

    go : (file : Bool) → is_file o.what ≡ file → length (if file then record o { content = take len o.content } else o).content ≤ len
    go true e = omega (arith, length-take len o.content)
    go false e = (let none : length o.content ≡ 0 = ap length (bare (dir o.what e)) in omega (arith, none))

-- a write of these bytes
pub written_length : (at : ℕ) (bytes old : List ℕ) → (length bytes ≡ 0 → length (written at bytes old) ≡ length old) × (0 < length bytes → (at + length bytes ≤ length (written at bytes old)) × (length old ≤ length (written at bytes old)) × ((length (written at bytes old) ≡ length old) ⊎ (length (written at bytes old) ≡ at + length bytes)))
written_length at [] old = (λ e. refl, λ less. absurd (omega (arith, less)))
written_length at (b ∷ bs) old = (λ e. absurd (omega (arith, e)), λ less. (let k = length-written at (b ∷ bs) old less in (omega (arith, k), omega (arith, k), longer (length old) (at + length (b ∷ bs)) (length (written at (b ∷ bs) old)) k)))
  where
    longer : (m n q : ℕ) → q ≡ max m n → (q ≡ m) ⊎ (q ≡ n)
    longer m n q e = grind arith
