-- What a work that only looks and reads doesn't show: locks, attempts and phases.
use Rattle.std.proofs.Common.{◌≡◌, ℕ, ◌<◌, ◌≤◌, ◌==◌, ◌&&◌, nat_lt, Bool, true, false, List, [], ◌∷◌, None, refl, sym, ap, ◌∙◌, subst, arith, if◌then◌else◌}
use Rattle.std.proofs.lemmas.Bool.Decides.{nat_tests}
use Rattle.std.proofs.lemmas.Bool.{eqb-true}
use Rattle.afr_base.specs.Bricks.{added, member}
use Rattle.afr_base.specs.declared.ids.ActorId.{ActorId}
use Rattle.afr_base.specs.declared.ids.BrickId.{BrickId}
use Rattle.afr_base.specs.declared.ids.Gfid.{Gfid}
use Rattle.afr_base.proofs.TestLemmas.{same_number}
use Rattle.afr_choice.specs.declared.looked.Looked.{Looked}
use Rattle.afr_lines.specs.Work.{Work}
use Rattle.afr_lines.specs.declared.answer.Told.{Told}
use Rattle.afr_lines.specs.declared.line.Line.{Line}
use Rattle.afr_lines.specs.declared.line.Line.TheVariants.{Ask}
use Rattle.afr_lines.specs.declared.request.Area.{Area}
use Rattle.afr_lines.specs.declared.request.Request.{Request}
use Rattle.afr_lines.specs.declared.request.Request.TheVariants.{Look, ReadName, ReadBytes, ReadAttr, List as ListNames}
use Rattle.afr_model.specs.Showing.{among, begins_attempt, has, locks, look_shows, looked_after, looked_by, looking, looks_at}
use Rattle.afr_model.specs.Standing.{change_by, locks_area}
use Rattle.afr_discipline.specs.Free.{is_free}
use Rattle.afr_client_walk.specs.Looks.{noted_look}
use Rattle.afr_law_client.specs.Read.Lines.{LookedAll, LookedBut, OnlyReads, reads}
use Rattle.afr_law_client.specs.Read.Looks.{IsPlain}
use Rattle.afr_law_client.proofs.Read.LooksMore.{look_shows_is, plain_none, plain_noted}

pub and_left : (a b : Bool) → (a && b) ≡ true → a ≡ true
and_left true b h = refl
and_left false b h = absurd (cc h)

pub and_right : (a b : Bool) → (a && b) ≡ true → b ≡ true
and_right true b h = h
and_right false b h = absurd (cc h)

-- ---- no line passes
-- a test that no look and no read passes
abbrev pub IsQuiet : (Line → Bool) → Type 0
IsQuiet test = (a : ActorId) (b : BrickId) (request : Request) (told : Told) (took : Bool) → is_free request ≡ true → test (Ask a b request told took) ≡ false

quiet_line : (n : ℕ) (test : Line → Bool) → IsQuiet test → (line : Line) → reads n line ≡ true → test line ≡ false
quiet_line n test q (Ask a b request told took) h = q a b request told took (and_right (nat_lt b.0 n) (is_free request) h)
quiet_line n test q line h = absurd (cc h)

pub has_none : (n : ℕ) (test : Line → Bool) → IsQuiet test → (w : Work) → OnlyReads n w → has test w ≡ false
has_none n test q [] h = refl
has_none n test q (x ∷ w) h = let first = quiet_line n test q x.0 h.0 in let rest = has_none n test q w h.1 in rw (first, rest) refl

pub begins_none : (n : ℕ) (w : Work) → OnlyReads n w → has begins_attempt w ≡ false
begins_none n w h = has_none n begins_attempt (λ a b request told took free. refl) w h

quiet_locks : (g : Gfid) → IsQuiet (locks g)
quiet_locks g a b (Look h) told took free = refl
quiet_locks g a b (ReadName h name) told took free = refl
quiet_locks g a b (ReadBytes h at len) told took free = refl
quiet_locks g a b (ReadAttr h key) told took free = refl
quiet_locks g a b (ListNames h) told took free = refl
quiet_locks g a b request told took free = absurd (cc free)

quiet_area : (area : Area) → IsQuiet (locks_area area)
quiet_area area a b (Look h) told took free = refl
quiet_area area a b (ReadName h name) told took free = refl
quiet_area area a b (ReadBytes h at len) told took free = refl
quiet_area area a b (ReadAttr h key) told took free = refl
quiet_area area a b (ListNames h) told took free = refl
quiet_area area a b request told took free = absurd (cc free)

pub locks_none : (n : ℕ) (g : Gfid) (w : Work) → OnlyReads n w → has (locks g) w ≡ false
locks_none n g w h = has_none n (locks g) (quiet_locks g) w h

pub area_none : (n : ℕ) (area : Area) (w : Work) → OnlyReads n w → has (locks_area area) w ≡ false
area_none n area w h = has_none n (locks_area area) (quiet_area area) w h

-- ---- no change
no_change_line : (n : ℕ) (line : Line) (older : List Line) (w : Work) → reads n line ≡ true → change_by ((line, older) ∷ w) ≡ change_by w
no_change_line n (Ask a b request told took) older w h = refl
no_change_line n line older w h = absurd (cc h)

pub change_none : (n : ℕ) (w : Work) → OnlyReads n w → change_by w ≡ None
change_none n [] h = refl
change_none n (x ∷ w) h = no_change_line n x.0 x.1 w h.0 ∙ change_none n w h.1

-- ---- the looks
-- every object's last looks have five places, of bricks below n
plain_line : (n : ℕ) (g : Gfid) (line : Line) (looked : Looked) → n ≤ 5 → reads n line ≡ true → IsPlain n looked → IsPlain n (looked_after g line looked)
plain_line n g (Ask a b (Look h) told took) looked few free k = go (h.0 == g.0)
  where
    low : b.0 < n
    low = let l : nat_lt b.0 n ≡ true = and_left (nat_lt b.0 n) true free in grind (arith, nat_tests, l)

    go : (e : Bool) → IsPlain n (if e then look_shows b.0 told looked else looked)
    go true = subst (λ (x : Looked). IsPlain n x) (sym (look_shows_is b.0 told looked)) (plain_noted n b.0 told looked low k)
    go false = k
plain_line n g (Ask a b (ReadName h name) told took) looked few free k = k
plain_line n g (Ask a b (ReadBytes h at len) told took) looked few free k = k
plain_line n g (Ask a b (ReadAttr h key) told took) looked few free k = k
plain_line n g (Ask a b (ListNames h) told took) looked few free k = k
plain_line n g (Ask a b request told took) looked few free k = absurd (cc (and_right (nat_lt b.0 n) (is_free request) free))
plain_line n g line looked few free k = absurd (cc free)

pub plain_by : (n : ℕ) (g : Gfid) (w : Work) → n ≤ 5 → OnlyReads n w → IsPlain n (looked_by g w)
plain_by n g [] few h = plain_none n
plain_by n g (x ∷ w) few h = plain_line n g x.0 (looked_by g w) few h.0 (plain_by n g w few h.1)

-- ---- a look more
pub looked_more : (g : Gfid) (a : ActorId) (b : BrickId) (told : Told) (took : Bool) (log : List Line) (w : Work)
    → looked_by g ((Ask a b (Look g) told took, log) ∷ w) ≡ noted_look b.0 told (looked_by g w)
looked_more g a b told took log w = rw same_number (look_shows_is b.0 told (looked_by g w))

pub looking_more : (g : Gfid) (a : ActorId) (b : BrickId) (told : Told) (took : Bool) (log : List Line) (w : Work)
    → among (looking g) ((Ask a b (Look g) told took, log) ∷ w) ≡ added b.0 (among (looking g) w)
looking_more g a b told took log w = rw same_number refl

-- an object of which every brick has been asked but this one's
pub looked_but_more : (n : ℕ) (g : Gfid) (a : ActorId) (b : BrickId) (told : Told) (took : Bool) (log : List Line) (w : Work) → LookedBut n g w → LookedBut n g ((Ask a b (Look g) told took, log) ∷ w)
looked_but_more n g a b told took log w k h apart m c l =
    let m2 : has (looks_at h) w ≡ true = (rw apart at m) in
    rw apart (k h apart m2 c l)

pub all_from_but : (n : ℕ) (g : Gfid) (w : Work) → LookedBut n g w → ((b : ℕ) → b < n → member (among (looking g) w) b ≡ true) → LookedAll n w
all_from_but n g w but own h m b l = go (g.0 == h.0) refl
  where
    go : (e : Bool) → (g.0 == h.0) ≡ e → member (among (looking h) w) b ≡ true
    go true e = subst (λ (x : Gfid). member (among (looking x) w) b ≡ true) (ap (λ (x : ℕ). record { 0 = x }) (eqb-true g.0 h.0 e)) (own b l)
    go false e = but h e m b l

pub but_from_all : (n : ℕ) (g : Gfid) (w : Work) → LookedAll n w → LookedBut n g w
but_from_all n g w all h apart m b l = all h m b l
