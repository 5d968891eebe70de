-- A text that may stand behind `ok` is that of something a command may have given, and the other way round.
use Rattle.std.proofs.Common.{◌≡◌, ◌⊎◌, inl, inr, ℕ, List, [], ◌∷◌, ◌++◌, Option, Some, None, refl, sym, ap, subst, ◌∙◌, Bool, true, false, ◌||◌, codes, drop, ◌^◌, ◌<◌, append_assoc}
use Rattle.std.specs.Prelude.{decimal, is_some, length, map}
use Rattle.std.proofs.lemmas.List.{append-nil}
use Rattle.std.proofs.lemmas.Bool.{or_right, or_left, or_cases}
use Rattle.afr_base.specs.Text.{gfid_spelling}
use Rattle.afr_base.specs.declared.ids.Gfid.{Gfid}
use Rattle.afr_base.specs.declared.ids.NameId.{NameId}
use Rattle.afr_base.specs.declared.ids.ValueId.{ValueId}
use Rattle.afr_base.specs.declared.ids.What.{What}
use Rattle.afr_base.specs.declared.ids.What.TheVariants.{File, Dir}
use Rattle.afr_lines.specs.declared.reply.Good.{Good}
use Rattle.afr_lines.specs.declared.reply.Good.TheVariants as good
use Rattle.afr_plan.specs.Bytes.{name_byte}
use Rattle.afr_plan.specs.Data.{hex_bytes}
use Rattle.afr_plan.specs.Reading.{Reader, whole}
use Rattle.afr_plan.specs.declared.plan.Plan.{Plan}
use Rattle.afr_plan.specs.declared.plan.Words.{Words}
use Rattle.afr_model.specs.ReportReplies.{in_order, name_texts, names_text, stat_text}
use Rattle.afr_plan_read.proofs.Laws.{Stops}
use Rattle.afr_trace_read.specs.Contents.{contents_text, digits_at, value_given_at, stat_at, names_told, is_contents}
use Rattle.afr_trace_read.specs.Fit.{IsGfid, IsGivable, IsValueOf, MayStand}
use Rattle.afr_trace_read.specs.Reading.{may_stand}
use Rattle.afr_trace_read.proofs.Laws.{whole-takes}
use Rattle.afr_trace_read.proofs.ContentsLaws.{bytes_given, given_bytes, value_given-takes, stat-takes, value_read, file_read, dir_read}
use Rattle.afr_trace_read.proofs.NamesLaws.{AreRising, listed, names_read, ordered, spaced, texts_of, texts_same, with_entry}
use Rattle.afr_trace_read.proofs.OrderLaws.{list_read}

some_is : {A : Type 0} (o : Option A) → is_some o ≡ true → (x : A) × (o ≡ Some x)
some_is None e = absurd (cc e)
some_is (Some x) e = (x, refl)

is_some_of : {A : Type 0} (o : Option A) (x : A) → o ≡ Some x → is_some o ≡ true
is_some_of o x e = rw e refl

-- ---- what is read was given
abbrev WasGiven : Plan → List ℕ → Type 0
WasGiven p text = (given : Good) × IsGivable p given × (text ≡ contents_text p.words given)

bytes_were : (p : Plan) (text : List ℕ) → is_some (whole digits_at text) ≡ true → WasGiven p text
bytes_were p text e = let s = some_is (whole digits_at text) e in let u = bytes_given p text s.0 s.1 in (good.Bytes (hex_bytes s.0), u.0, u.1)

value_was : (p : Plan) (text : List ℕ) → is_some (whole (value_given_at p) text) ≡ true → WasGiven p text
value_was p text e =
    let s = some_is (whole (value_given_at p) text) e in
    let u = whole-takes (value_given_at p) _ _ (value_given-takes p) text s.0 s.1 in
    (good.Value s.0, u.0, u.1)

stat_was : (p : Plan) (text : List ℕ) → is_some (whole stat_at text) ≡ true → WasGiven p text
stat_was p text e =
    let s = some_is (whole stat_at text) e in
    let u = whole-takes stat_at _ _ (stat-takes p) text s.0 s.1 in
    (good.Stat s.0.0 s.0.1, u.0, u.1)

list_was : (p : Plan) (text : List ℕ) (names : List NameId) → AreRising p None names → text ≡ spaced (texts_of p names) → WasGiven p text
list_was p text [] r e = (good.Done, tt, e)
list_was p text (name ∷ names) r e =
    let order : in_order (name_texts p.words (map with_entry (name ∷ names))) ≡ texts_of p (name ∷ names) = ap in_order (texts_same p (name ∷ names)) ∙ ordered p None (name ∷ names) r in
    let end : contents_text p.words (good.Names (map with_entry (name ∷ names))) ≡ spaced (texts_of p (name ∷ names)) = ap (λ (l : List (List ℕ)). drop 2 (names_text l)) order in
    (good.Names (map with_entry (name ∷ names)), listed p None (name ∷ names) r, e ∙ sym end)

names_were : (p : Plan) (text : List ℕ) → is_some (names_told p None text) ≡ true → WasGiven p text
names_were p text e =
    let s = some_is (names_told p None text) e in
    let u = names_read p (length text) None text s.0 s.1 in
    list_was p text s.0 u.0 u.1

pub was_given : (p : Plan) (text : List ℕ) → is_contents p text ≡ true → WasGiven p text
was_given p text e = elim (or_cases (is_some (whole digits_at text)) _ e) [
  | inl h ↦ bytes_were p text h
  | inr later ↦ elim (or_cases (is_some (whole (value_given_at p) text)) _ later) [
    | inl h ↦ value_was p text h
    | inr last ↦ elim (or_cases (is_some (whole stat_at text)) _ last) [
      | inl h ↦ stat_was p text h
      | inr h ↦ names_were p text h
    ]
  ]
]

-- ---- what may be given is read
by_bytes : (p : Plan) (text : List ℕ) → is_some (whole digits_at text) ≡ true → is_contents p text ≡ true
by_bytes p text h = or_left _ _ h

by_value : (p : Plan) (text : List ℕ) → is_some (whole (value_given_at p) text) ≡ true → is_contents p text ≡ true
by_value p text h = or_right (is_some (whole digits_at text)) _ (or_left _ _ h)

by_stat : (p : Plan) (text : List ℕ) → is_some (whole stat_at text) ≡ true → is_contents p text ≡ true
by_stat p text h = or_right (is_some (whole digits_at text)) _ (or_right (is_some (whole (value_given_at p) text)) _ (or_left _ _ h))

by_names : (p : Plan) (text : List ℕ) → is_some (names_told p None text) ≡ true → is_contents p text ≡ true
by_names p text h = or_right (is_some (whole digits_at text)) _ (or_right (is_some (whole (value_given_at p) text)) _ (or_right (is_some (whole stat_at text)) _ h))

dash : (p : Plan) → is_contents p (codes " -") ≡ true
unfolding digits_at
dash p = refl

list_is : (p : Plan) (l : List (List ℕ)) → is_some (names_told p None (spaced l)) ≡ true → is_contents p (drop 2 (names_text l)) ≡ true
list_is p [] h = dash p
list_is p (s ∷ l) h = by_names p (spaced (s ∷ l)) h

whole_of : {A : Type 0} (r : Reader A) (text : List ℕ) (x : A) → r (text ++ []) ≡ Some (x, []) → is_some (whole r text) ≡ true
whole_of r text x e = let here : r text ≡ Some (x, []) = ap r (sym (append-nil text)) ∙ e in rw here refl

some_value : (p : Plan) (value : ValueId) → IsValueOf p value → is_some (whole (value_given_at p) (contents_text p.words (good.Value (Some value)))) ≡ true
some_value p value ok = whole_of (value_given_at p) (contents_text p.words (good.Value (Some value))) (Some value) (value_read p value ok)

file_is : (p : Plan) (g : Gfid) (len : ℕ) → IsGfid g → len < 2 ^ 32 → is_contents p (contents_text p.words (good.Stat (record { gfid = g; what = File }) len)) ≡ true
file_is p g len ok l =
    let start : List ℕ = codes " file " ++ gfid_spelling g.0 in
    let read : is_some (whole stat_at (start ++ codes " " ++ decimal len)) ≡ true = whole_of stat_at (start ++ codes " " ++ decimal len) ((record { gfid = g; what = File }), len) (file_read g len ok l) in
    let P : List ℕ → Type 0 = λ t. is_some (whole stat_at t) ≡ true in
    by_stat p (contents_text p.words (good.Stat (record { gfid = g; what = File }) len)) (subst P (append_assoc start (codes " ") (decimal len)) read)

dir_is : (p : Plan) (g : Gfid) (len : ℕ) → IsGfid g → is_contents p (contents_text p.words (good.Stat (record { gfid = g; what = Dir }) len)) ≡ true
dir_is p g len ok =
    let text : List ℕ = codes " dir " ++ gfid_spelling g.0 in
    let read : is_some (whole stat_at text) ≡ true = whole_of stat_at text ((record { gfid = g; what = Dir }), 0) (dir_read g ok) in
    let P : List ℕ → Type 0 = λ t. is_some (whole stat_at t) ≡ true in
    by_stat p (contents_text p.words (good.Stat (record { gfid = g; what = Dir }) len)) (subst P (sym (append-nil text)) read)

stat_is : (p : Plan) (g : Gfid) (what : What) (len : ℕ) → IsGfid g → len < 2 ^ 32 → is_contents p (contents_text p.words (good.Stat (record { gfid = g; what = what }) len)) ≡ true
stat_is p g File len ok l = file_is p g len ok l
stat_is p g Dir len ok l = dir_is p g len ok

pub given_is : (p : Plan) (given : Good) → IsGivable p given → is_contents p (contents_text p.words given) ≡ true
given_is p good.Done ok = by_names p [] refl
given_is p (good.Bytes bytes) ok = let s = given_bytes p bytes ok in by_bytes p (contents_text p.words (good.Bytes bytes)) (is_some_of _ s.0 s.1)
given_is p (good.Names names) ok = list_is p (in_order (name_texts p.words names)) (list_read p names ok)
given_is p (good.Value None) ok = dash p
given_is p (good.Value (Some value)) ok = by_value p (contents_text p.words (good.Value (Some value))) (some_value p value ok)
given_is p (good.Stat entry len) ok = stat_is p entry.gfid entry.what len ok.0 ok.1

-- ---- behind a line
names_begin : (l : List (List ℕ)) → Stops name_byte (drop 2 (names_text l))
names_begin [] = refl
names_begin (s ∷ l) = refl

stat_begins : (g : Gfid) (what : What) (len : ℕ) → Stops name_byte (drop 2 (stat_text (record { gfid = g; what = what }) len))
stat_begins g File len = refl
stat_begins g Dir len = refl

begins : (words : Words) (given : Good) → Stops name_byte (contents_text words given)
begins words good.Done = tt
begins words (good.Bytes []) = refl
begins words (good.Bytes (b ∷ bs)) = refl
begins words (good.Names names) = names_begin (in_order (name_texts words names))
begins words (good.Value None) = refl
begins words (good.Value (Some value)) = refl
begins words (good.Stat entry len) = stat_begins entry.gfid entry.what len

pub stands : (p : Plan) (here : Bool) (text : List ℕ) → may_stand p here text ≡ true → MayStand p here text
stands p true text e = was_given p text e
stands p false [] e = refl
stands p false (b ∷ bs) e = absurd (cc e)

pub may_be : (p : Plan) (here : Bool) (text : List ℕ) → MayStand p here text → may_stand p here text ≡ true
may_be p true text h = let P : List ℕ → Type 0 = λ t. is_contents p t ≡ true in subst P (sym h.2) (given_is p h.0 h.1)
may_be p false text h = rw h refl

-- what stands behind a line's own text begins with a space
pub stands_apart : (p : Plan) (here : Bool) (text : List ℕ) → MayStand p here text → Stops name_byte text
stands_apart p true text h = let P : List ℕ → Type 0 = λ t. Stops name_byte t in subst P (sym h.2) (begins p.words h.0)
stands_apart p false text h = let P : List ℕ → Type 0 = λ t. Stops name_byte t in subst P (sym h) tt
