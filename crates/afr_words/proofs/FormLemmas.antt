-- What the answers of a parse say of the words.
use Rattle.std.proofs.Common.{◌≡◌, ℕ, ◌<◌, List, [], ◌∷◌, Bool, true, false, IsTrue, Option, Some, None, codes, refl, inl, inr, arith}
use Rattle.std.specs.Prelude.{decimal, zero, suc, Box, IfSome, IsSomeAnd, String, map, option_map, slice_get, slice_index, string_bytes}
use Rattle.std.specs.Box.{box_value}
use Rattle.std.specs.Global.{Global}
use Rattle.std.specs.List.{Any}
use Rattle.clap.specs.Faults.{fault_of, is_simple_and_free}
use Rattle.clap.specs.Matches.{subcommand_name_of}
use Rattle.clap.specs.Simple.{App, HasMatchesOf, subcommand_of, subcommand_rows, subcommand_rows_of}
use Rattle.clap.specs.Takes.{takes}
use Rattle.clap.specs.Walk.{Row, Text}
use Rattle.clap.specs.declared.error.kind.ErrorKind.{ErrorKind}
use Rattle.clap.specs.declared.error.kind.ErrorKind.TheVariants as error
use Rattle.clap.specs.declared.parser.matches.ArgMatches.{ArgMatches}
use Rattle.clap.specs.declared.parser.matches.ArgMatches.TheViews.{out-ArgMatches, out-SubCommand}
use Rattle.clap.specs.declared.parser.matches.SubCommand.{SubCommand}
use Rattle.afr_words.specs.Forms.{AreForm, AreRefused, AreWordsOf, AskCheck, AskFor, IsDashed}
use Rattle.afr_words.specs.Reading.{whole_program}
use Rattle.afr_words.specs.declared.form.Form.{Form}
use Rattle.afr_words.specs.declared.form.Form.TheVariants as kind
use Rattle.afr_words.proofs.NumberLemmas.{decimal_begins}
use Rattle.afr_words.proofs.ReadingLemmas.{form_is_taken, taken_is_word, text_of, word_is_named}

-- each text begins above `-`
abbrev BeginAbove : List (List ℕ) → Type 0
BeginAbove [] = Unit
BeginAbove (text ∷ texts) = (45 < slice_index text 0) × BeginAbove texts

-- texts that are refused neither as none, nor for `help`, nor for a `-`
record ArePlain (texts : List (List ℕ)) : Type 0 where
  some : texts ≡ [] → ⊥
  first : slice_get texts 0 ≡ Some (codes "help") → ⊥
  above : BeginAbove texts

-- the first letter tells it of the first text
plain_from_letter : (text : List ℕ) (rest : List (List ℕ)) → 45 < slice_index text 0 → (slice_index text 0 ≡ 104 → ⊥) → BeginAbove rest → ArePlain (text ∷ rest)
plain_from_letter text rest low letter above = record { some = λ e. cc; first = λ e. (let same : text ≡ codes "help" = cc in letter (rw same refl)); above = (low, above) }

-- the words of each form are plain
form_is_plain : (form : Form) (texts : List (List ℕ)) → AreWordsOf form texts → ArePlain texts
form_is_plain kind.Run texts are = rw are (plain_from_letter (codes "run") [] (omega arith) (λ e. omega (arith, e)) tt)
form_is_plain kind.Trace texts are = rw are (plain_from_letter (codes "trace") [] (omega arith) (λ e. omega (arith, e)) tt)
form_is_plain kind.Info texts are = rw are (plain_from_letter (codes "info") [] (omega arith) (λ e. omega (arith, e)) tt)
form_is_plain (kind.Gen n) texts (are, low, high) =
    let digits : 48 < slice_index (decimal n) 0 = decimal_begins (decimal n) n refl low (omega (arith, high)) in
    rw are (plain_from_letter (codes "gen") (decimal n ∷ []) (omega arith) (λ e. omega (arith, e)) (omega (arith, digits), tt))
form_is_plain (kind.Replay n) texts (are, low, high) =
    let digits : 48 < slice_index (decimal n) 0 = decimal_begins (decimal n) n refl low (omega (arith, high)) in
    rw are (plain_from_letter (codes "replay") (decimal n ∷ []) (omega arith) (λ e. omega (arith, e)) (omega (arith, digits), tt))

dashed_letter : (text : List ℕ) → slice_get text 0 ≡ Some 45 → slice_index text 0 ≡ 45
dashed_letter [] d = cc
dashed_letter (x ∷ xs) d = cc

undashed : (words : List (String Global)) → BeginAbove (map string_bytes words) → Any IsDashed words → ⊥
undashed [] above (k, x, lt, at, d) = omega arith
undashed (w ∷ words) above (zero, x, lt, at, d) = let is : IsDashed w = rw at d in omega (arith, above.0, dashed_letter _ is)
undashed (w ∷ words) above (suc k, x, lt, at, d) = undashed words above.1 (k, x, omega arith, at, d)

-- plain words aren't refused at sight
refused_is_not_plain : (words : List (String Global)) → AreRefused words → ArePlain (map string_bytes words) → ⊥
refused_is_not_plain words (inr (inr dashed)) plain = undashed words plain.above dashed
refused_is_not_plain [] refused plain = plain.some refl
refused_is_not_plain (w ∷ words) (inl none) plain = cc
refused_is_not_plain (w ∷ words) (inr (inl help)) plain = plain.first help

-- words that are refused at sight ask for no form
pub refused_is_no_form : (words : List (String Global)) → AreRefused words → AreForm words → ⊥
refused_is_no_form words refused (form, asked) = refused_is_not_plain words refused (form_is_plain form (map string_bytes words) asked)

-- and not for a check
pub refused_is_no_check : (words : List (String Global)) → AreRefused words → AskCheck words → ⊥
refused_is_no_check words refused check = refused_is_not_plain words refused (rw check (plain_from_letter (codes "check") [] (omega arith) (λ e. omega (arith, e)) tt))

-- an error that isn't for want of memory says that the words ask for no form, where they ask for none with a number
pub failed_is_no_form : (app : App) (words : List (String Global)) (why : ErrorKind) → app ≡ whole_program
    → (takes app (map string_bytes words) ≡ true → why ≡ error.OutOfMemory) → (why ≡ error.OutOfMemory → ⊥)
    → ((n : ℕ) → AskFor words (kind.Gen n) → ⊥) → ((n : ℕ) → AskFor words (kind.Replay n) → ⊥) → AreForm words → ⊥
failed_is_no_form app words why is passes other no_load no_replay (form, asked) = other (passes (rw is (form_is_taken form (map string_bytes words) no_load no_replay asked)))

-- a test that said no is of what doesn't hold
pub untold : {P : Type 0} (told : Bool) → (P → IsTrue told) → told ≡ false → P → ⊥
untold told is failed holds = let yes = is holds in cc

-- what was met is named by its row
name_of_row : (m : ArgMatches) (row : Option (Text × List Row)) (name : Text) → subcommand_rows_of m ≡ row → option_map (λ p. p.0) row ≡ Some name → subcommand_name_of m ≡ Some name
name_of_row m row name is named = go (out-ArgMatches m).subcommand is
  where
    go : {Z : Type 0} (met : Option (Box SubCommand Z)) → subcommand_rows met ≡ row → option_map (λ b. (out-SubCommand (box_value b)).name.now) met ≡ Some name
    go None e = rw (← e) at named
    go (Some b) e = rw (← e) at named

-- the words are the one that names the subcommand
abbrev pub Names : List (String Global) → ArgMatches → Type 0
Names words m = (name : List ℕ) × (map string_bytes words ≡ name ∷ []) × (subcommand_name_of m ≡ Some name)

-- words that were parsed are such a word
pub parsed_names : (app : App) (words : List (String Global)) (m : ArgMatches) → app ≡ whole_program → (AreRefused words → ⊥)
    → (is_simple_and_free app ≡ true → fault_of app (map string_bytes words) ≡ []) → HasMatchesOf app (map string_bytes words) m → Names words m
parsed_names app words m is plain kinds matches =
    let (word, one) = taken_is_word words (λ d. plain (inr (inr d))) (rw is at (kinds (rw is refl))) in
    let rows : subcommand_rows_of m ≡ subcommand_of whole_program (text_of word ∷ []) = rw (is, one) at (matches (rw is refl)).1 in
    (text_of word, one, name_of_row m (subcommand_of whole_program (text_of word ∷ [])) (text_of word) rows (word_is_named word))

-- the form of that name is what they ask for
pub named_is_form : (words : List (String Global)) (m : ArgMatches) (met : Option Form) → Names words m
    → IfSome met (λ form. IsSomeAnd (subcommand_name_of m) (λ name. AreWordsOf form (name ∷ []))) → (form : Form) → met ≡ Some form → AskFor words form
named_is_form words m met (name, one, named) some form e =
    let here : IsSomeAnd (subcommand_name_of m) (λ name. AreWordsOf form (name ∷ [])) = rw e at some in
    let are : AreWordsOf form (name ∷ []) = rw named at here in rw one are

-- and where no form has that name, they ask for none
pub unnamed_is_no_form : (words : List (String Global)) (m : ArgMatches) → Names words m
    → IfSome (subcommand_name_of m) (λ name. (form : Form) → AreWordsOf form (name ∷ []) → ⊥) → AreForm words → ⊥
unnamed_is_no_form words m (name, one, named) none (form, asked) =
    let unnamed : (form : Form) → AreWordsOf form (name ∷ []) → ⊥ = rw named at none in unnamed form (rw one at asked)
