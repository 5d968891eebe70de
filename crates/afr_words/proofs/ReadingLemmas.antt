-- What a parse of the program makes of words: it takes the word of each form that is a single one, and no others that aren't dashed.
use Rattle.std.proofs.Common.{◌≡◌, ◌⊎◌, List, [], ◌∷◌, Bool, true, false, Some, None, ◌==◌, codes, refl, sym, ap, ◌∙◌, inl, inr, arith}
use Rattle.std.specs.Prelude.{ℕ, String, if◌then◌else◌, map, option_map, slice_get, string_bytes}
use Rattle.std.specs.Global.{Global}
use Rattle.std.specs.List.{Any}
use Rattle.std.specs.Str.{bytes_eq}
use Rattle.std.proofs.lemmas.Slice.Eq.{bytes_eq-Decides}
use Rattle.clap.specs.Faults.{entered_fault, fault_of, stray_fault, turn_fault, walk_fault}
use Rattle.clap.specs.Kinds.{Kinds, or_else}
use Rattle.clap.specs.Lexer.{long_of, short_of}
use Rattle.clap.specs.Simple.{Shape, built, names_of, subcommand_of}
use Rattle.clap.specs.Takes.{takes}
use Rattle.clap.specs.Walk.{Names, Text, idle, nothing_held, subcommand_met, walk, walk_from, walked}
use Rattle.clap.specs.declared.error.kind.ErrorKind.TheVariants as error
use Rattle.clap.proofs.OnLiterals.{clap_on_literals}
use Rattle.clap.proofs.WalkLemmas.{walk_stopped}
use Rattle.afr_words.specs.Forms.{AreWordsOf, IsDashed}
use Rattle.afr_words.specs.Reading.{whole_program}
use Rattle.afr_words.specs.declared.form.Form.{Form}
use Rattle.afr_words.specs.declared.form.Form.TheVariants as kind

-- the words of a form are taken, but for those of a form with a number
pub form_is_taken : (form : Form) (texts : List Text) → ((n : ℕ) → AreWordsOf (kind.Gen n) texts → ⊥) → ((n : ℕ) → AreWordsOf (kind.Replay n) texts → ⊥)
    → AreWordsOf form texts → takes whole_program texts ≡ true
unfolding clap_on_literals
form_is_taken kind.Run texts no_load no_replay are = rw are refl
form_is_taken kind.Trace texts no_load no_replay are = rw are refl
form_is_taken kind.Info texts no_load no_replay are = rw are refl
form_is_taken (kind.Gen n) texts no_load no_replay are = absurd (no_load n are)
form_is_taken (kind.Replay n) texts no_load no_replay are = absurd (no_replay n are)

-- the words that are a form by themselves, and their texts
pub data Word : Type 0 where
  run : Word
  trace : Word
  info : Word

abbrev pub text_of : Word → Text
text_of run = codes "run"
text_of trace = codes "trace"
text_of info = codes "info"

-- each names its subcommand
pub word_is_named : (word : Word) → option_map (λ p. p.0) (subcommand_of whole_program (text_of word ∷ [])) ≡ Some (text_of word)
unfolding clap_on_literals
word_is_named run = refl
word_is_named trace = refl
word_is_named info = refl

-- a text that doesn't begin with `-` is no flag
record IsPlainText (t : Text) : Type 0 where
  end : bytes_eq t (45 ∷ 45 ∷ []) ≡ false
  long : long_of t ≡ None
  short : short_of t ≡ None

plain_text : (t : Text) → (slice_get t 0 ≡ Some 45 → ⊥) → IsPlainText t
plain_text [] plain = record { end = refl; long = refl; short = refl }
plain_text (x ∷ xs) plain = go (x == 45) refl
  where
    go : (b : Bool) → (x == 45) ≡ b → IsPlainText (x ∷ xs)
    go true e = absurd (plain (ap Some (search (arith))))
    go false e = record { end = rw e refl; long = rw e refl; short = rw e refl }

first_is_empty : (a b : Kinds) → or_else a b ≡ [] → a ≡ []
first_is_empty [] b e = refl
first_is_empty (k ∷ ks) b e = e

second_is_empty : (a b : Kinds) → or_else a b ≡ [] → b ≡ []
second_is_empty [] b e = e
second_is_empty (k ∷ ks) b e = cc

no_stray : (s : Shape) → stray_fault s ≡ [] → ⊥
no_stray s e = go s.is_leaf e
  where
    go : (leaf : Bool) → ◌≡◌ {A = Kinds} (if leaf then error.UnknownArgument ∷ [] else error.UnknownArgument ∷ error.InvalidSubcommand ∷ []) [] → ⊥
    go true e = cc
    go false e = cc

-- a command without arguments has no place for a plain text that names no subcommand
stray : (s : Shape) (names : Names) (t : Text) (rest : List Text) → s.rules ≡ [] → IsPlainText t → subcommand_met names idle t ≡ None
    → walk_fault s names (walk_from nothing_held) (t ∷ rest) ≡ [] → ⊥
unfolding walk_fault
stray s names t rest bare plain unnamed e =
    let turn : turn_fault s names (walk_from nothing_held) t ≡ stray_fault s = rw (unnamed, bare, plain.end, plain.long, plain.short) refl in
    no_stray s (sym turn ∙ first_is_empty _ _ e)

-- the subcommand that such a word names, with the words after it
named_stop : (word : Word) (rest : List Text) → (walk [] (names_of (built whole_program)) nothing_held (text_of word ∷ rest)).stopped ≡ Some (text_of word, rest)
unfolding walked
named_stop run rest = sym (ap (λ w. w.stopped) (walk_stopped [] (names_of (built whole_program)) (walk_from nothing_held) (codes "run") [] rest))
named_stop trace rest = sym (ap (λ w. w.stopped) (walk_stopped [] (names_of (built whole_program)) (walk_from nothing_held) (codes "trace") [] rest))
named_stop info rest = sym (ap (λ w. w.stopped) (walk_stopped [] (names_of (built whole_program)) (walk_from nothing_held) (codes "info") [] rest))

-- a form takes no plain text after such a word
none_after : (word : Word) (t : Text) (rest : List Text) → IsPlainText t → entered_fault (built whole_program) (Some (text_of word, t ∷ rest)) ≡ [] → ⊥
none_after run t rest plain e = stray _ [] t rest refl plain refl (first_is_empty _ _ e)
none_after trace t rest plain e = stray _ [] t rest refl plain refl (first_is_empty _ _ e)
none_after info t rest plain e = stray _ [] t rest refl plain refl (first_is_empty _ _ e)

none_more : (word : Word) (t : Text) (rest : List Text) → IsPlainText t → fault_of whole_program (text_of word ∷ t ∷ rest) ≡ [] → ⊥
none_more word t rest plain e =
    let below : entered_fault (built whole_program) (walk [] (names_of (built whole_program)) nothing_held (text_of word ∷ t ∷ rest)).stopped ≡ [] = first_is_empty _ _ (second_is_empty _ _ e) in
    none_after word t rest plain (rw (named_stop word (t ∷ rest)) at below)

-- the text is such a word, or names none
word_or_none : (t : Text) → ((word : Word) × (t ≡ text_of word)) ⊎ (subcommand_met (names_of (built whole_program)) idle t ≡ None)
word_or_none t = go (bytes_eq (codes "run") t) (bytes_eq (codes "trace") t) (bytes_eq (codes "info") t) refl refl refl
  where
    go : (r s i : Bool) → bytes_eq (codes "run") t ≡ r → bytes_eq (codes "trace") t ≡ s → bytes_eq (codes "info") t ≡ i
        → ((word : Word) × (t ≡ text_of word)) ⊎ (subcommand_met (names_of (built whole_program)) idle t ≡ None)
    go true _ _ r s i = inl (run, sym ((bytes_eq-Decides (codes "run") t).0 r))
    go false true _ r s i = inl (trace, sym ((bytes_eq-Decides (codes "trace") t).0 s))
    go false false true r s i = inl (info, sym ((bytes_eq-Decides (codes "info") t).0 i))
    go false false false r s i = inr (rw (r, s, i) refl)

none_missing : fault_of whole_program [] ≡ [] → ⊥
unfolding clap_on_literals
none_missing e = let missing : ◌≡◌ {A = Kinds} (error.MissingSubcommand ∷ []) [] = e in cc

abbrev pub IsOneWord : List (String Global) → Type 0
IsOneWord words = (word : Word) × (map string_bytes words ≡ text_of word ∷ [])

-- words that aren't dashed are taken only where they are such a word alone
pub taken_is_word : (words : List (String Global)) → (Any IsDashed words → ⊥) → fault_of whole_program (map string_bytes words) ≡ [] → IsOneWord words
taken_is_word [] plain e = absurd (none_missing e)
taken_is_word (w ∷ rest) plain e = go (word_or_none (string_bytes w)) rest plain e
  where
    go : ((word : Word) × (string_bytes w ≡ text_of word)) ⊎ (subcommand_met (names_of (built whole_program)) idle (string_bytes w) ≡ None)
        → (rest : List (String Global)) → (Any IsDashed (w ∷ rest) → ⊥) → fault_of whole_program (string_bytes w ∷ map string_bytes rest) ≡ [] → IsOneWord (w ∷ rest)
    go (inl (word, named)) [] plain e = (word, ap (λ text. text ∷ []) named)
    go (inl (word, named)) (u ∷ rest) plain e =
        absurd (none_more word (string_bytes u) (map string_bytes rest) (plain_text (string_bytes u) (λ d. plain (1, u, omega arith, refl, d))) (rw named at e))
    go (inr unnamed) rest plain e =
        absurd (stray (built whole_program).top _ (string_bytes w) (map string_bytes rest) refl (plain_text (string_bytes w) (λ d. plain (0, w, omega arith, refl, d))) unnamed (first_is_empty _ _ e))
