-- What a command gave, as its text stands behind the word `ok`, and how that text is read.
use Rattle.std.specs.Prelude.{ℕ, ◌^◌, Bool, true, false, not, ◌&&◌, ◌||◌, List, [], ◌∷◌, Option, Some, None, codes, drop, length, nat_lt, option_map, is_some, slice_index_or, suc, take, zero}
use Rattle.std.specs.Int.{from_be_bytes, w128}
use Rattle.std.specs.Str.{bytes_eq}
use Rattle.uuid.specs.Text.{parsed}
use Rattle.afr_base.specs.Text.{gfid_spelling}
use Rattle.afr_base.specs.declared.ids.Gfid.{Gfid}
use Rattle.afr_base.specs.declared.ids.NameId.{NameId}
use Rattle.afr_base.specs.declared.ids.ValueId.{ValueId}
use Rattle.afr_base.specs.declared.ids.What.TheVariants.{File, Dir}
use Rattle.afr_object.specs.declared.entry.Entry.{Entry}
use Rattle.afr_lines.specs.declared.reply.Good.{Good}
use Rattle.afr_plan.specs.Bytes.{hex_digit}
use Rattle.afr_plan.specs.Data.{is_paired}
use Rattle.afr_plan.specs.Reading.{◌>>=◌, Reader, checked, whole, word, word_then, both, as_a, either, run_of}
use Rattle.afr_plan.specs.declared.plan.Plan.{Plan}
use Rattle.afr_plan.specs.declared.plan.Words.{Words}
use Rattle.afr_model.specs.ReportReplies.{good_text, precedes}
use Rattle.afr_trace_read.specs.Forms.{before, number_below, such_that, then_word}
use Rattle.afr_trace_read.specs.Parts.{name_at, value_at}

-- what was given, behind the word `ok`: nothing, or from a space on
abbrev pub contents_text : Words → Good → List ℕ
contents_text words given = drop 2 (good_text words given)

-- ---- bytes
-- there are digits, and they come in pairs
abbrev pub is_some_paired : List ℕ → Bool
is_some_paired [] = false
is_some_paired (d ∷ ds) = is_paired (d ∷ ds)

-- the digits of some bytes, or a dash where there are none
unfoldable pub digits_at : Reader (List ℕ)
digits_at = either (word_then (codes " ") (run_of hex_digit is_some_paired)) (word (codes " -") [])

-- ---- a value
-- a value of the plan, or a dash where there is none
unfoldable pub value_given_at : Plan → Reader (Option ValueId)
value_given_at p = either (as_a Some (word_then (codes " ") (value_at p))) (word (codes " -") None)

-- ---- a stat
-- the gfid that sixteen bytes are, if it is written so
abbrev pub gfid_if : List ℕ → List ℕ → Option Gfid
gfid_if w bytes = checked (nat_lt (from_be_bytes w128 bytes) (2 ^ 128) && bytes_eq (gfid_spelling (from_be_bytes w128 bytes)) w) (record { 0 = from_be_bytes w128 bytes })

-- the gfid that is written so
unfoldable pub gfid_told : List ℕ → Option Gfid
gfid_told w = parsed w >>= gfid_if w

-- a gfid of 36 characters
unfoldable pub gfid_at : Reader Gfid
gfid_at xs = gfid_told (take 36 xs) >>= before (drop 36 xs)

-- a file and its length
abbrev pub file_of : Gfid × ℕ → Entry × ℕ
file_of x = ((record { gfid = x.0; what = File }), x.1)

-- a directory, whose length is 0
abbrev pub dir_of : Gfid → Entry × ℕ
dir_of g = ((record { gfid = g; what = Dir }), 0)

-- what a stat gave
unfoldable pub stat_at : Reader (Entry × ℕ)
stat_at = either (as_a file_of (both (then_word (word_then (codes " file ") gfid_at) (codes " ")) (number_below (2 ^ 32)))) (as_a dir_of (word_then (codes " dir ") gfid_at))

-- ---- names
-- the bytes of a name
abbrev pub bytes_of_name : Plan → NameId → List ℕ
bytes_of_name p name = slice_index_or p.words.names name.0 []

-- a text stands before another in the order of bytes, and isn't the same
abbrev pub is_before : List ℕ → List ℕ → Bool
is_before s t = not (precedes t s)

-- a name comes after the last one, if there is a last one
abbrev pub comes_after : Plan → Option NameId → NameId → Bool
comes_after p None name = true
comes_after p (Some last) name = is_before (bytes_of_name p last) (bytes_of_name p name)

-- a name of the plan that comes after the last one, behind a space
unfoldable pub name_behind : Plan → Option NameId → Reader NameId
name_behind p last = such_that (word_then (codes " ") (name_at p)) (comes_after p last)

-- a name that was read, and those behind it
abbrev pub and_more : Option (NameId × List ℕ) → (NameId → List ℕ → Option (List NameId)) → Option (List NameId)
and_more None more = None
and_more (Some x) more = option_map (λ (names : List NameId). x.0 ∷ names) (more x.0 x.1)

-- so many names, or fewer, up to the end
abbrev pub names_on : Plan → ℕ → Option NameId → List ℕ → Option (List NameId)
names_on p most last [] = Some []
names_on p zero last (b ∷ bs) = None
names_on p (suc most) last (b ∷ bs) = and_more (name_behind p last (b ∷ bs)) (λ name rest. names_on p most (Some name) rest)

-- names of the plan up to the end, each behind a space, in the order of their bytes
abbrev pub names_told : Plan → Option NameId → List ℕ → Option (List NameId)
names_told p last text = names_on p (length text) last text

-- ---- any of these
-- whether a text may stand behind `ok`
abbrev pub is_contents : Plan → List ℕ → Bool
is_contents p text = is_some (whole digits_at text) || (is_some (whole (value_given_at p) text) || (is_some (whole stat_at text) || is_some (names_told p None text)))
