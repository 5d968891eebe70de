-- The forms of the program's words, and the words that are none of them at sight.
use Rattle.std.specs.Prelude.{◌≡◌, ◌≤◌, ◌⊎◌, ℕ, List, [], ◌∷◌, Some, String, codes, decimal, map, option_map, slice_get, string_bytes}
use Rattle.std.specs.Global.{Global}
use Rattle.std.specs.List.{Any}
use Rattle.afr_words.specs.declared.form.Form.{Form}
use Rattle.afr_words.specs.declared.form.Form.TheVariants as kind
use Rattle.afr_words.specs.declared.live.LiveForm.{LiveForm}
use Rattle.afr_words.specs.declared.live.LiveForm.TheVariants as live

-- the texts are a name and the decimal digits of a number from 1 to a largest one, and no more
abbrev pub AreNumbered : List ℕ → ℕ → ℕ → List (List ℕ) → Type 0
AreNumbered name n most texts = (texts ≡ name ∷ decimal n ∷ []) × (1 ≤ n) × (n ≤ most)

-- the texts are the words of this form: one word and no more, or a name and a number
abbrev pub AreWordsOf : Form → List (List ℕ) → Type 0
AreWordsOf kind.Run texts = texts ≡ codes "run" ∷ []
AreWordsOf kind.Trace texts = texts ≡ codes "trace" ∷ []
AreWordsOf kind.Info texts = texts ≡ codes "info" ∷ []
AreWordsOf (kind.Gen n) texts = AreNumbered (codes "gen") n 2000 texts
AreWordsOf (kind.Replay turns) texts = AreNumbered (codes "replay") turns 4000000 texts

-- the words ask for this form
abbrev pub AskFor : List (String Global) → Form → Type 0
AskFor words form = AreWordsOf form (map string_bytes words)

-- the words ask for one of the forms
abbrev pub AreForm : List (String Global) → Type 0
AreForm words = (form : Form) × AskFor words form

-- the word begins with `-`
abbrev pub IsDashed : String Global → Type 0
IsDashed word = slice_get (string_bytes word) 0 ≡ Some 45

-- there are no words, the first is `help`, or one begins with `-`
abbrev pub AreRefused : List (String Global) → Type 0
AreRefused words = (words ≡ []) ⊎ (option_map string_bytes (slice_get words 0) ≡ Some (codes "help")) ⊎ Any IsDashed words

-- ---- runs by threads and crawls, which the forms above don't name
-- the word of such a form
abbrev pub live_word : LiveForm → List ℕ
live_word live.Live = codes "live"
live_word live.Crawl = codes "crawl"
live_word live.Record = codes "record"

-- the words ask for this one of them
abbrev pub AskLive : List (String Global) → LiveForm → Type 0
AskLive words form = map string_bytes words ≡ live_word form ∷ []

-- the words ask for a run by threads or a crawl
abbrev pub AreLive : List (String Global) → Type 0
AreLive words = (form : LiveForm) × AskLive words form

-- ---- a check of a given trace, of which no form above is one
-- the words ask for it
abbrev pub AskCheck : List (String Global) → Type 0
AskCheck words = map string_bytes words ≡ codes "check" ∷ []
