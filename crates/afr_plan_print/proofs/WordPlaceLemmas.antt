-- A word is found at its number, also among more words.
use Rattle.std.proofs.Common.{◌≡◌, ℕ, ◌+◌, List, [], ◌∷◌, ◌++◌, refl, sym, ap, ◌∙◌, arith, Bool, true, false, cond, not, ◌||◌, suc, map, append_assoc, Some}
use Rattle.std.specs.Prelude.{slice_get}
use Rattle.std.specs.List.{list_all, list_any}
use Rattle.std.specs.Str.{bytes_eq}
use Rattle.std.proofs.lemmas.List.{append-nil}
use Rattle.std.proofs.lemmas.Slice.Eq.{bytes_eq-Decides}
use Rattle.afr_base.specs.declared.ids.NameId.{NameId}
use Rattle.afr_plan.specs.declared.plan.Words.{Words}
use Rattle.afr_plan.specs.Names.{with_name, with_names, number_of}
use Rattle.afr_plan.specs.PlanOf.{path_of, command_of, words_with}
use Rattle.afr_plan.specs.Said.{Command}
use Rattle.afr_plan.specs.Action.{Action, Write, Read, Create, Mkdir, Unlink, Rmdir, Ls, Stat, SetAttr, GetAttr, Rename}
use Rattle.afr_plan.specs.Action as action
use Rattle.afr_plan_print.specs.PrintedPlan.{as_ascii, or_mark, word_at, names_of, said_command}
use Rattle.afr_plan_print.proofs.PrintedPathLemmas.{ascii, AreAscii}

-- ---- more words
-- some words, and then others
abbrev pub Extends : List (List ℕ) → List (List ℕ) → Type 0
Extends old new = (rest : List (List ℕ)) × (new ≡ old ++ rest)

extends_self : (ws : List (List ℕ)) → Extends ws ws
extends_self ws = ([], sym (append-nil ws))

extends_on : (a b c : List (List ℕ)) → Extends a b → Extends b c → Extends a c
extends_on a b c h k = (h.0 ++ k.0, k.1 ∙ ap (λ (t : List (List ℕ)). t ++ k.0) h.1 ∙ append_assoc a h.0 k.0)

one_more : (ws : List (List ℕ)) (w : List ℕ) → Extends ws (with_name ws w)
one_more ws w = step (list_any (bytes_eq w) ws)
  where
    step : (c : Bool) → Extends ws (cond c ws (ws ++ w ∷ []))
    step true = extends_self ws
    step false = (w ∷ [], refl)

path_more : (path ws : List (List ℕ)) → Extends ws (with_names ws path)
path_more [] ws = extends_self ws
path_more (n ∷ path) ws = extends_on ws (with_name ws n) _ (one_more ws n) (path_more path (with_name ws n))

both_more : (path to ws : List (List ℕ)) → Extends ws (with_names (with_names ws path) to)
both_more path to ws = extends_on ws (with_names ws path) _ (path_more path ws) (path_more to (with_names ws path))

-- ---- a word at its number
at_number : (ws rest : List (List ℕ)) (w : List ℕ) → slice_get (with_name ws w ++ rest) (number_of ws w) ≡ Some w
at_number [] rest w = refl
at_number (x ∷ xs) rest w = step (bytes_eq w x) refl (at_number xs rest w)
  where
    tail_first : (c : Bool) → slice_get (cond c xs (xs ++ w ∷ []) ++ rest) (number_of xs w) ≡ Some w → slice_get (cond c (x ∷ xs) ((x ∷ xs) ++ w ∷ []) ++ rest) (1 + number_of xs w) ≡ Some w
    tail_first true h = let e : 1 + number_of xs w ≡ suc (number_of xs w) = omega arith in rw e h
    tail_first false h = let e : 1 + number_of xs w ≡ suc (number_of xs w) = omega arith in rw e h

    step : (b : Bool) → bytes_eq w x ≡ b → slice_get (with_name xs w ++ rest) (number_of xs w) ≡ Some w
        → slice_get (cond (b || list_any (bytes_eq w) xs) (x ∷ xs) ((x ∷ xs) ++ w ∷ []) ++ rest) (cond (not b) (1 + number_of xs w) 0) ≡ Some w
    step true e ih = ap Some (sym ((bytes_eq-Decides w x).0 e))
    step false e ih = tail_first (list_any (bytes_eq w) xs) ih

as_itself : (w : List ℕ) → list_all ascii w ≡ true → as_ascii w ≡ w
as_itself w h = rw h refl

pub found : (ws new : List (List ℕ)) (w : List ℕ) → list_all ascii w ≡ true → Extends (with_name ws w) new → word_at new (number_of ws w) ≡ w
found ws new w h e = ap (λ (t : List (List ℕ)). word_at t (number_of ws w)) e.1 ∙ ap or_mark (at_number ws e.0 w) ∙ as_itself w h

pub path_found : (path ws new : List (List ℕ)) → AreAscii path → Extends (with_names ws path) new → map (λ (id : NameId). word_at new id.0) (path_of ws path) ≡ path
path_found [] ws new a e = refl
path_found (n ∷ path) ws new a e =
    let first = found ws new n a.0 (extends_on (with_name ws n) _ new (path_more path (with_name ws n)) e) in
    let more = path_found path (with_name ws n) new a.1 e in
    ap (λ (t : List ℕ). t ∷ map (λ (id : NameId). word_at new id.0) (path_of (with_name ws n) path)) first ∙ ap (λ (t : List (List ℕ)). n ∷ t) more

-- ---- the words of a command
-- each of the three lists goes on
pub record Within (old new : Words) : Type 0 where
  pub names : Extends old.names new.names
  pub keys : Extends old.keys new.keys
  pub values : Extends old.values new.values

pub within_self : (w : Words) → Within w w
within_self w = record { names = extends_self w.names; keys = extends_self w.keys; values = extends_self w.values }

within_on : (a b c : Words) → Within a b → Within b c → Within a c
within_on a b c h k = record { names = extends_on _ _ _ h.names k.names; keys = extends_on _ _ _ h.keys k.keys; values = extends_on _ _ _ h.values k.values }

pub within_command : (words new : Words) (path : List (List ℕ)) (w : Action) → Within (words_with words path w) new → Within words new
within_command words new path (SetAttr key value) h = within_on words _ new (record { names = path_more path words.names; keys = one_more words.keys key; values = one_more words.values value }) h
within_command words new path (GetAttr key) h = within_on words _ new (record { names = path_more path words.names; keys = one_more words.keys key; values = extends_self words.values }) h
within_command words new path (Rename to) h = within_on words _ new (record { names = both_more path to words.names; keys = extends_self words.keys; values = extends_self words.values }) h
within_command words new path w h = within_on words _ new (record { names = path_more path words.names; keys = extends_self words.keys; values = extends_self words.values }) h

-- the keys and values of a command, and the names of its second path, are ASCII
abbrev pub IsWorkAscii : Action → Type 0
IsWorkAscii (SetAttr key value) = (list_all ascii key ≡ true) × (list_all ascii value ≡ true)
IsWorkAscii (GetAttr key) = list_all ascii key ≡ true
IsWorkAscii (Rename to) = AreAscii to
IsWorkAscii w = Unit {0}

with_path : (words new : Words) (path : List (List ℕ)) (w : Action) → AreAscii path → Extends (with_names words.names path) new.names → Command (names_of new (path_of words.names path)) w ≡ Command path w
with_path words new path w a e = ap (λ (t : List (List ℕ)). Command t w) (path_found path words.names new.names a e)

pub command_found : (words new : Words) (path : List (List ℕ)) (w : Action) → AreAscii path → IsWorkAscii w → Within (words_with words path w) new → said_command new (command_of words path w) ≡ Command path w
command_found words new path (Write at bytes) a k h = with_path words new path (Write at bytes) a h.names
command_found words new path (action.Cut len) a k h = with_path words new path (action.Cut len) a h.names
command_found words new path (Read at len) a k h = with_path words new path (Read at len) a h.names
command_found words new path Create a k h = with_path words new path Create a h.names
command_found words new path Mkdir a k h = with_path words new path Mkdir a h.names
command_found words new path Unlink a k h = with_path words new path Unlink a h.names
command_found words new path Rmdir a k h = with_path words new path Rmdir a h.names
command_found words new path Ls a k h = with_path words new path Ls a h.names
command_found words new path Stat a k h = with_path words new path Stat a h.names
command_found words new path (SetAttr key value) a k h =
    ap (λ (t : List ℕ). Command (names_of new (path_of words.names path)) (SetAttr t (word_at new.values (number_of words.values value)))) (found words.keys new.keys key k.0 h.keys)
    ∙ ap (λ (t : List ℕ). Command (names_of new (path_of words.names path)) (SetAttr key t)) (found words.values new.values value k.1 h.values)
    ∙ with_path words new path (SetAttr key value) a h.names
command_found words new path (GetAttr key) a k h =
    ap (λ (t : List ℕ). Command (names_of new (path_of words.names path)) (GetAttr t)) (found words.keys new.keys key k h.keys) ∙ with_path words new path (GetAttr key) a h.names
command_found words new path (Rename to) a k h =
    let names : List (List ℕ) = with_names words.names path in
    ap (λ (t : List (List ℕ)). Command (names_of new (path_of words.names path)) (Rename t)) (path_found to names new.names k h.names)
    ∙ with_path words new path (Rename to) a (extends_on names _ new.names (path_more to names) h.names)
