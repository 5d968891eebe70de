-- The first reply after a position, one line more, and that no later line changes it.
use Rattle.std.proofs.Common.{◌≡◌, ◌∙◌, ℕ, suc, ◌+◌, ◌<◌, ◌≤◌, Bool, true, false, List, [], ◌∷◌, ◌++◌, Option, Some, None, length, take, drop, reverse, get_or, nat_lt, refl, sym, ap, arith, if◌then◌else◌}
use Rattle.std.proofs.lemmas.Bool.Decides.{nat_tests}
use Rattle.std.proofs.lemmas.List.{length-append, length-reverse, length-take, reverse-append, take-append-drop}
use Rattle.afr_lines.specs.Work.{reply_by}
use Rattle.afr_lines.specs.declared.line.Line.{Line}
use Rattle.afr_lines.specs.declared.reply.Reply.{Reply}
use Rattle.afr_model.specs.Attempts.{earlier, first_reply}
use Rattle.afr_trace_safe.proofs.PushLemmas.{newest}

-- there is none up to the position
none_early : (a q : ℕ) (log : List Line) → length log ≤ q → first_reply a q log ≡ None
none_early a q [] l = refl
none_early a q (line ∷ older) l =
    let no : nat_lt q (length older) ≡ false = grind (arith, nat_tests, l) in
    rw no refl

pub none_first : (a q : ℕ) (log : List Line) → first_reply a q (reverse (take q log)) ≡ None
none_first a q log = none_early a q (reverse (take q log)) (omega (arith, length-reverse (take q log), length-take q log))

-- where there was none, it is that of one line more
reply_then : (a q : ℕ) (line : Line) (older : List Line) → first_reply a q older ≡ None → first_reply a q (line ∷ older) ≡ (if nat_lt q (length older) then reply_by a line else None)
reply_then a q line older h = ap (λ (o : Option Reply). if nat_lt q (length older) then earlier o (reply_by a line) else None) h

pub reply_next : (a q : ℕ) (log : List Line) (at : ℕ) (line : Line) (o : Option Reply) → at < length log → line ≡ get_or log at line → o ≡ (if nat_lt q at then reply_by a line else None) → first_reply a q (reverse (take at log)) ≡ None
    → first_reply a q (reverse (take (at + 1) log)) ≡ o
reply_next a q log at line o low e new h =
    let count : length (reverse (take at log)) ≡ at = omega (arith, low, length-reverse (take at log), length-take at log) in
    ap (first_reply a q) (newest log at line low e) ∙ reply_then a q line (reverse (take at log)) h ∙ ap (λ (n : ℕ). if nat_lt q n then reply_by a line else None) count ∙ sym new

-- once there is one it stays
replied_within : (a q : ℕ) (log : List Line) (r : Reply) → first_reply a q log ≡ Some r → q < length log
replied_within a q [] r h = absurd (cc h)
replied_within a q (line ∷ older) r h = by (nat_lt q (length older)) refl h
  where
    by : (t : Bool) → nat_lt q (length older) ≡ t → (if t then earlier (first_reply a q older) (reply_by a line) else None) ≡ Some r → q < suc (length older)
    by true e f =
        let l : q < length older = grind (arith, nat_tests, e) in
        omega (arith, l)
    by false e f = absurd (cc f)

stays : (a q : ℕ) (newer older : List Line) (r : Reply) → first_reply a q older ≡ Some r → first_reply a q (newer ++ older) ≡ Some r
stays a q [] older r h = h
stays a q (x ∷ newer) older r h =
    let within : q < length older = replied_within a q older r h in
    let yes : nat_lt q (length (newer ++ older)) ≡ true = grind (arith, nat_tests, within, length-append newer older) in
    rw (yes, stays a q newer older r h) refl

pub reply_stays : (a q : ℕ) (log : List Line) (at : ℕ) (r : Reply) → first_reply a q (reverse (take at log)) ≡ Some r → first_reply a q (reverse log) ≡ Some r
reply_stays a q log at r h =
    let parts : reverse log ≡ reverse (drop at log) ++ reverse (take at log) = ap (λ (t : List Line). reverse t) (sym (take-append-drop at log)) ∙ reverse-append (take at log) (drop at log) in
    ap (first_reply a q) parts ∙ stays a q (reverse (drop at log)) (reverse (take at log)) r h
