-- A line that is judged to say something breaks no rule, and back.
use Rattle.std.proofs.Common.{◌≡◌, ℕ, List, [], ◌∷◌, Option, Some, None, Result, Ok, Err, refl, sym, ap, subst, ◌∙◌, Bool, true, false, not, if◌then◌else◌}
use Rattle.std.specs.List.{list_all}
use Rattle.afr_plan.specs.Bytes.{plain}
use Rattle.afr_plan.specs.Said.{Said, IsSaid, Afr, Volume, Files, Turns, Client, Command, Healer, Round, Faulty, At, Go, End}
use Rattle.afr_plan.specs.SaidReading.{said}
use Rattle.afr_plan.specs.Rules.{is_over, may_stand, is_versioned, words_after, word_of, is_one_of, is_beyond, is_disordered, passes_total}
use Rattle.afr_plan.specs.Action.{Action, IsCommand, action_word, Write, Read, Create, Mkdir, Unlink, Rmdir, Ls, Stat, SetAttr, GetAttr, Rename}
use Rattle.afr_plan.specs.Action as action
use Rattle.afr_plan.specs.Judging.{begins_plan, may_begin, first_word, place_code, judged, formed, fitting}
use Rattle.afr_plan.specs.Spells.{IsLine}
use Rattle.afr_plan.specs.declared.version.Version.TheVariants.{One, Two}
use Rattle.afr_plan_read.proofs.SaidLemmas.{said-takes, said-again}

-- ---- places
-- a line's first word is that of what it says
first_command : (line : List ℕ) (path : List (List ℕ)) (w : Action) → IsCommand line path w → first_word line ≡ action_word w
first_command line path (Write at bytes) h = ap first_word h.2
first_command line path (action.Cut len) h = ap first_word h.2
first_command line path (Read at len) h = ap first_word h.2
first_command line path Create h = ap first_word h.2
first_command line path Mkdir h = ap first_word h.2
first_command line path Unlink h = ap first_word h.2
first_command line path Rmdir h = ap first_word h.2
first_command line path Ls h = ap first_word h.2
first_command line path Stat h = ap first_word h.2
first_command line path (SetAttr key value) h = ap first_word h.2
first_command line path (GetAttr key) h = ap first_word h.2
first_command line path (Rename to) h = ap first_word h.2

first_said : (line : List ℕ) (s : Said) → IsSaid line s → first_word line ≡ word_of s
first_said line (Afr One) h = ap first_word h
first_said line (Afr Two) h = ap first_word h
first_said line (Volume version shape) h = ap first_word h.2
first_said line (Files k) h = ap first_word h.2
first_said line (Turns t) h = ap first_word h.2
first_said line (Client i) h = ap first_word h.2
first_said line (Command path w) h = first_command line path w h
first_said line (Healer j) h = ap first_word h.2
first_said line (Round brick) h = ap first_word h.2
first_said line (Faulty brick at fault) h = ap first_word h.2
first_said line (At at event) h = ap first_word h.2
first_said line (Go who count) h = ap first_word h.2
first_said line End h = ap first_word h

-- and only the first line begins with the first line's words
begun_command : (line : List ℕ) (path : List (List ℕ)) (w : Action) → IsCommand line path w → begins_plan line ≡ may_stand [] (Command path w)
begun_command line path (Write at bytes) h = ap begins_plan h.2
begun_command line path (action.Cut len) h = ap begins_plan h.2
begun_command line path (Read at len) h = ap begins_plan h.2
begun_command line path Create h = ap begins_plan h.2
begun_command line path Mkdir h = ap begins_plan h.2
begun_command line path Unlink h = ap begins_plan h.2
begun_command line path Rmdir h = ap begins_plan h.2
begun_command line path Ls h = ap begins_plan h.2
begun_command line path Stat h = ap begins_plan h.2
begun_command line path (SetAttr key value) h = ap begins_plan h.2
begun_command line path (GetAttr key) h = ap begins_plan h.2
begun_command line path (Rename to) h = ap begins_plan h.2

begun_said : (line : List ℕ) (s : Said) → IsSaid line s → begins_plan line ≡ may_stand [] s
begun_said line (Afr One) h = ap begins_plan h
begun_said line (Afr Two) h = ap begins_plan h
begun_said line (Volume version shape) h = ap begins_plan h.2
begun_said line (Files k) h = ap begins_plan h.2
begun_said line (Turns t) h = ap begins_plan h.2
begun_said line (Client i) h = ap begins_plan h.2
begun_said line (Command path w) h = begun_command line path w h
begun_said line (Healer j) h = ap begins_plan h.2
begun_said line (Round brick) h = ap begins_plan h.2
begun_said line (Faulty brick at fault) h = ap begins_plan h.2
begun_said line (At at event) h = ap begins_plan h.2
begun_said line (Go who count) h = ap begins_plan h.2
begun_said line End h = ap begins_plan h

placed_said : (before : List Said) (line : List ℕ) (s : Said) → IsSaid line s → may_begin before line ≡ may_stand before s
placed_said [] line s h = begun_said line s h
placed_said (newest ∷ older) line s h = ap (is_one_of (words_after newest)) (first_said line s h)

-- nothing may stand after `end`
goes_on : (before : List Said) (s : Said) → may_stand before s ≡ true → is_over before ≡ false
goes_on [] s h = refl
goes_on (End ∷ older) s h = absurd (cc)
goes_on (newest ∷ older) s h = refl

-- ---- what `fitting` finds, by its three tests
pub record Fits (before : List Said) (t s : Said) : Type 0 where
  pub same : t ≡ s
  pub limits : is_beyond t ≡ false
  pub order : is_disordered before t ≡ false
  pub totals : passes_total before t ≡ false

abbrev tested : Bool → Bool → Bool → Said → Result Said ℕ
tested a b c t = if a then Err 6 else if b then Err 7 else if c then Err 8 else Ok t

abbrev tried : Bool → Bool → Bool → ℕ → Result Said ℕ → Result Said ℕ
tried a b m code r = if not a then Err 1 else if b then Err 9 else if not m then Err code else r

pub fitting_ok : (before : List Said) (t s : Said) → fitting before t ≡ Ok s → Fits before t s
fitting_ok before t s h = step (is_beyond t) (is_disordered before t) (passes_total before t) refl refl refl h
  where
    step : (a b c : Bool) → is_beyond t ≡ a → is_disordered before t ≡ b → passes_total before t ≡ c → tested a b c t ≡ Ok s → Fits before t s
    step true b c ea eb ec e = absurd (cc)
    step false true c ea eb ec e = absurd (cc)
    step false false true ea eb ec e = absurd (cc)
    step false false false ea eb ec e = record { same = cc; limits = ea; order = eb; totals = ec }

-- ---- what `judged` finds
pub record Judged (before : List Said) (line : List ℕ) (s : Said) : Type 0 where
  pub bytes : list_all plain line ≡ true
  pub place : may_begin before line ≡ true
  pub form : said line ≡ Some s
  pub version : is_versioned before s ≡ true
  pub fits : fitting before s ≡ Ok s

abbrev spelled : Bool → Result Said ℕ → Result Said ℕ
spelled v r = if not v then Err 5 else r

form_ok : (before : List Said) (o : Option Said) (s : Said) → formed before o ≡ Ok s → (o ≡ Some s) × (is_versioned before s ≡ true) × (fitting before s ≡ Ok s)
form_ok before None s e = absurd (cc)
form_ok before (Some t) s e = step (is_versioned before t) refl e
  where
    step : (v : Bool) → is_versioned before t ≡ v → spelled v (fitting before t) ≡ Ok s → (Some t ≡ Some s) × (is_versioned before s ≡ true) × (fitting before s ≡ Ok s)
    step false ev e = absurd (cc)
    step true ev e =
        let f = fitting_ok before t s e in
        let P : Said → Type 0 = λ x. fitting before x ≡ Ok s in
        let Q : Said → Type 0 = λ x. is_versioned before x ≡ true in
        (ap Some f.same, subst Q f.same ev, subst P f.same e)

pub judged_ok : (before : List Said) (line : List ℕ) (s : Said) → judged before line ≡ Ok s → Judged before line s
judged_ok before line s h = step (list_all plain line) (is_over before) (may_begin before line) refl refl h
  where
    step : (a b m : Bool) → list_all plain line ≡ a → may_begin before line ≡ m → tried a b m (place_code before) (formed before (said line)) ≡ Ok s → Judged before line s
    step false b m ea em e = absurd (cc)
    step true true m ea em e = absurd (cc)
    step true false false ea em e = absurd (cc)
    step true false true ea em e = let f = form_ok before (said line) s e in record { bytes = ea; place = em; form = f.0; version = f.1; fits = f.2 }

pub judged-line : (before : List Said) (line : List ℕ) (s : Said) → judged before line ≡ Ok s → IsLine before line s
judged-line before line s h =
    let j = judged_ok before line s h in
    let f = fitting_ok before s s j.fits in
    let said_so = said-takes line s j.form in
    record { bytes = j.bytes; form = said_so; version = j.version; place = sym (placed_said before line s said_so) ∙ j.place; limits = f.limits; order = f.order; totals = f.totals }

pub line-judged : (before : List Said) (line : List ℕ) (s : Said) → IsLine before line s → judged before line ≡ Ok s
line-judged before line s l =
    let place : may_begin before line ≡ true = placed_said before line s l.form ∙ l.place in
    let going : is_over before ≡ false = goes_on before s l.place in
    rw (l.bytes, going, place, said-again line s l.form, l.version, l.limits, l.order, l.totals) refl
