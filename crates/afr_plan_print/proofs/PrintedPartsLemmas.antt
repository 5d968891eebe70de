-- The parts of a plan's text are the text of its lines.
use Rattle.std.proofs.Common.{◌≡◌, ℕ, List, [], ◌∷◌, ◌++◌, refl, sym, ap, ◌∙◌, suc, map, append_assoc, codes}
use Rattle.std.proofs.lemmas.List.{append-nil}
use Rattle.afr_plan.specs.declared.plan.Plan.{Plan}
use Rattle.afr_plan.specs.TextLines.{bytes_of}
use Rattle.afr_plan.specs.Said.{Said, Client, Healer, End}
use Rattle.afr_plan_print.specs.PrintedLine.{line_text, lines_text}
use Rattle.afr_plan_print.specs.PrintedPlan.{head_lines, group_lines, client_lines, healer_lines, said_command, said_round, said_fault, said_event, said_order, plan_text}
use Rattle.afr_plan_print.specs.PrintedParts.{groups_text, clients_text, parts_text}

pub lines_text-append : (a b : List Said) → lines_text (a ++ b) ≡ lines_text a ++ lines_text b
lines_text-append [] b = refl
lines_text-append (s ∷ a) b = ap (λ (t : List ℕ). (line_text s ++ codes "\n") ++ t) (lines_text-append a b) ∙ sym (append_assoc (line_text s ++ codes "\n") (lines_text a) (lines_text b))

pub lines_text-bytes : (ss : List Said) → lines_text ss ≡ bytes_of (map line_text ss)
lines_text-bytes [] = refl
lines_text-bytes (s ∷ ss) = ap (λ (t : List ℕ). (line_text s ++ codes "\n") ++ t) (lines_text-bytes ss)

groups : {A : Type 0} (head : ℕ → Said) (line : A → Said) (i : ℕ) (gs : List (List A)) → lines_text (group_lines head line i gs) ≡ groups_text head line i gs
groups head line i [] = refl
groups head line i (g ∷ gs) =
    ap (λ (t : List ℕ). (line_text (head i) ++ codes "\n") ++ t) (lines_text-append (map line g) (group_lines head line (suc i) gs) ∙ ap (λ (t : List ℕ). lines_text (map line g) ++ t) (groups head line (suc i) gs))
    ∙ sym (append_assoc (line_text (head i) ++ codes "\n") (lines_text (map line g)) (groups_text head line (suc i) gs))

six_parts : (a b c d e f g : List Said) → lines_text (a ++ (b ++ (c ++ (d ++ (e ++ (f ++ g)))))) ≡ lines_text a ++ lines_text b ++ lines_text c ++ lines_text d ++ lines_text e ++ lines_text f ++ lines_text g
six_parts a b c d e f g =
    lines_text-append a _ ∙ ap (λ (t : List ℕ). lines_text a ++ t) (lines_text-append b _) ∙ sym (append_assoc (lines_text a) (lines_text b) _)
    ∙ ap (λ (t : List ℕ). (lines_text a ++ lines_text b) ++ t) (lines_text-append c _) ∙ sym (append_assoc (lines_text a ++ lines_text b) (lines_text c) _)
    ∙ ap (λ (t : List ℕ). (lines_text a ++ lines_text b ++ lines_text c) ++ t) (lines_text-append d _) ∙ sym (append_assoc (lines_text a ++ lines_text b ++ lines_text c) (lines_text d) _)
    ∙ ap (λ (t : List ℕ). (lines_text a ++ lines_text b ++ lines_text c ++ lines_text d) ++ t) (lines_text-append e _) ∙ sym (append_assoc (lines_text a ++ lines_text b ++ lines_text c ++ lines_text d) (lines_text e) _)
    ∙ ap (λ (t : List ℕ). (lines_text a ++ lines_text b ++ lines_text c ++ lines_text d ++ lines_text e) ++ t) (lines_text-append f g) ∙ sym (append_assoc (lines_text a ++ lines_text b ++ lines_text c ++ lines_text d ++ lines_text e) (lines_text f) (lines_text g))

pub parts_text-plan : (p : Plan) → parts_text p ≡ plan_text p
parts_text-plan p =
    sym (six_parts (head_lines p) (client_lines p.words p.clients) (healer_lines p.healers) (map said_fault p.faults) (map said_event p.events) (map said_order p.go) (End ∷ [])
    ∙ ap (λ (t : List ℕ). lines_text (head_lines p) ++ t ++ lines_text (healer_lines p.healers) ++ lines_text (map said_fault p.faults) ++ lines_text (map said_event p.events) ++ lines_text (map said_order p.go) ++ codes "end\n") (groups Client (said_command p.words) 1 p.clients)
    ∙ ap (λ (t : List ℕ). lines_text (head_lines p) ++ clients_text p.words 1 p.clients ++ t ++ lines_text (map said_fault p.faults) ++ lines_text (map said_event p.events) ++ lines_text (map said_order p.go) ++ codes "end\n") (groups Healer said_round 1 p.healers))

pub four_lines : (o a b c d : List ℕ) → (o ++ (a ++ b)) ++ (c ++ d) ≡ o ++ (a ++ (b ++ (c ++ (d ++ []))))
four_lines o a b c d = append_assoc o (a ++ b) (c ++ d) ∙ ap (λ (t : List ℕ). o ++ t) (append_assoc a b (c ++ d) ∙ ap (λ (t : List ℕ). a ++ (b ++ (c ++ t))) (sym (append-nil d)))

-- a line in version 2 with its line feed
pub second_line : (o kind n : List ℕ) → o ++ (codes "afr 2\nvolume " ++ (kind ++ (codes " " ++ (n ++ codes "\n")))) ≡ o ++ (codes "afr 2\n" ++ ((codes "volume " ++ (kind ++ (codes " " ++ n))) ++ codes "\n"))
second_line o kind n = ap (λ (t : List ℕ). o ++ (codes "afr 2\nvolume " ++ t)) (sym (append_assoc kind (codes " " ++ n) (codes "\n")))
