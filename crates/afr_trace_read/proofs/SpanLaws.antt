-- What a lock covers, both ways.
use Rattle.std.proofs.Common.{◌≡◌, ℕ, ◌-◌, ◌^◌, ◌<◌, ◌==◌, List, [], ◌∷◌, ◌++◌, Option, Some, None, refl, codes, Bool, true, false, arith, cond}
use Rattle.std.specs.Prelude.{decimal}
use Rattle.std.proofs.lemmas.Bool.Decides.{nat_tests}
use Rattle.afr_base.specs.declared.ids.Gfid.{Gfid}
use Rattle.afr_report_trace.specs.Objects.{object_text, is_opening}
use Rattle.afr_lines.specs.declared.lock.Domain.{Domain}
use Rattle.afr_lines.specs.declared.lock.Domain.TheVariants.{Work, Heal}
use Rattle.afr_plan.specs.declared.plan.Plan.{Plan}
use Rattle.afr_plan.specs.Bytes.{digit, name_byte, is_name}
use Rattle.afr_plan.specs.Reading.{Reader, word, word_then, both}
use Rattle.afr_report_trace.specs.Requests.{domain_text}
use Rattle.afr_plan_read.proofs.Laws.{Any, first_of, Stops}
use Rattle.afr_trace_read.specs.Forms.{then_word, such_that, number_below, word_among, is_small}
use Rattle.afr_trace_read.specs.Parts.{name_at, name_of}
use Rattle.afr_trace_read.specs.Reading.{upto_at, span_of, span_at, domain_at, covered_at}
use Rattle.afr_trace_read.specs.Texts.{upto_text, span_text}
use Rattle.afr_trace_read.specs.declared.kinds.Span.{Span}
use Rattle.afr_trace_read.specs.declared.kinds.Span.TheVariants as span
use Rattle.afr_trace_read.specs.Fit.{Always, IsGfid, IsUpto, IsSpan}
use Rattle.afr_trace_read.proofs.Laws.{give-takes, Takes, Again, word-takes, word_then-takes, word_then-again, both-takes, both-again, then_word-takes, then_word-again, as-takes, as-again, as-none, both-none, then_word-none, such_that-none, second_of, either-takes}
use Rattle.afr_trace_read.proofs.NumberLaws.{number-takes, number-again, no_number}
use Rattle.afr_trace_read.proofs.PartLaws.{object-takes, object-again, name-takes, name-again}
use Rattle.afr_trace_read.proofs.WordLaws.{no_word}

upto-takes : Takes upto_at upto_text IsUpto
unfolding upto_at
upto-takes = either-takes _ _ _ _ (as-takes Some _ _ _ _ _ (then_word-takes _ (codes ")") _ _ (number-takes (2 ^ 63) (omega arith))) (λ n l. (l, refl))) (word-takes (codes "end)") None _ _ tt refl)

read_upto : (x : Option ℕ) (rest : List ℕ) → IsUpto x → Any rest → upto_at (upto_text x ++ rest) ≡ Some (x, rest)
unfolding upto_at
read_upto (Some to) rest ok n = first_of _ _ _ (as-again Some _ _ _ _ (then_word-again _ (codes ")") _ _ _ (number-again (2 ^ 63) (omega arith)) (λ rest. refl)) to rest ok n)
read_upto None rest ok n = second_of _ _ _ (as-none Some (then_word (number_below (2 ^ 63)) (codes ")")) (codes "end)" ++ rest) (then_word-none (number_below (2 ^ 63)) (codes ")") (codes "end)" ++ rest) (no_number (2 ^ 63) 101 (codes "nd)" ++ rest) refl))) refl

upto-again : Again upto_at upto_text IsUpto Any
upto-again = record { read = read_upto }

abbrev start_at : Reader ℕ
start_at = then_word (word_then (codes "[") (number_below (2 ^ 63))) (codes ",")

ranged-takes : Takes (both (then_word (word_then (codes "[") (number_below (2 ^ 63))) (codes ",")) upto_at) (λ x. codes "[" ++ decimal x.0 ++ codes "," ++ upto_text x.1) (λ x. (x.0 < 2 ^ 63) × IsUpto x.1)
ranged-takes = both-takes _ _ _ _ _ _ (then_word-takes _ (codes ",") _ _ (word_then-takes (codes "[") _ _ _ (number-takes (2 ^ 63) (omega arith)))) upto-takes

ranged-again : Again (both (then_word (word_then (codes "[") (number_below (2 ^ 63))) (codes ",")) upto_at) (λ x. codes "[" ++ decimal x.0 ++ codes "," ++ upto_text x.1) (λ x. (x.0 < 2 ^ 63) × IsUpto x.1) Any
ranged-again = both-again _ _ _ _ _ _ Any Any (then_word-again _ (codes ",") _ _ _ (word_then-again (codes "[") _ _ _ _ (number-again (2 ^ 63) (omega arith))) (λ rest. refl)) upto-again (λ y rest ok n. tt)

span-takes : (p : Plan) → Takes (span_at p) (span_text p) (IsSpan p)
unfolding span_at
span-takes p = either-takes _ _ _ _ (as-takes span_of _ _ _ _ _ ranged-takes (λ x ok. (ok, refl))) (
    either-takes _ _ _ _ (as-takes span.OfName _ _ _ _ _ (word_then-takes (codes "/") _ _ _ (name-takes p)) (λ x ok. (ok, refl))) (
    either-takes _ _ _ _ (word-takes (codes "[meta]") span.Meta _ _ tt refl) (word-takes (codes "/*") span.AllNames _ _ tt refl)))

no_range : (rest : List ℕ) → word_then (codes "[") (number_below (2 ^ 63)) (codes "[meta]" ++ rest) ≡ None
no_range rest = no_number (2 ^ 63) 109 (codes "eta]" ++ rest) refl

no_name : (p : Plan) (rest : List ℕ) → name_at p (codes "*" ++ rest) ≡ None
unfolding name_at
no_name p rest = as-none name_of (such_that (word_among name_byte is_name p.words.names) is_small) (codes "*" ++ rest) (such_that-none (word_among name_byte is_name p.words.names) is_small (codes "*" ++ rest) (no_word name_byte is_name p.words.names 42 rest refl refl))

read_span : (p : Plan) (x : Span) (rest : List ℕ) → IsSpan p x → Stops name_byte rest → span_at p (span_text p x ++ rest) ≡ Some (x, rest)
unfolding span_at
read_span p (span.Range from to) rest ok n = first_of _ _ _ (as-again span_of _ _ _ _ ranged-again (from, to) rest ok tt)
read_span p (span.OfName name) rest ok n = first_of _ _ _ (as-again span.OfName _ _ _ _ (word_then-again (codes "/") _ _ _ _ (name-again p)) name rest ok n)
read_span p span.Meta rest ok n = second_of _ _ _ (as-none span_of (both start_at upto_at) (codes "[meta]" ++ rest) (both-none start_at upto_at (codes "[meta]" ++ rest) (then_word-none (word_then (codes "[") (number_below (2 ^ 63))) (codes ",") (codes "[meta]" ++ rest) (no_range rest)))) refl
read_span p span.AllNames rest ok n = second_of _ _ _ (as-none span.OfName (word_then (codes "/") (name_at p)) (codes "/*" ++ rest) (no_name p rest)) refl

span-again : (p : Plan) → Again (span_at p) (span_text p) (IsSpan p) (Stops name_byte)
span-again p = record { read = read_span p }

abbrev letter_h : ℕ → Bool
letter_h b = b == 104

domain-takes : Takes domain_at domain_text Always
unfolding domain_at
domain-takes = either-takes _ _ _ _ (word-takes (codes "heal ") Heal _ _ tt refl) (give-takes Work _ _ tt refl)

no_heal : (rest : List ℕ) → Stops letter_h rest → word (codes "heal ") Heal rest ≡ None
no_heal [] n = refl
no_heal (x ∷ xs) n = let e : (104 == x) ≡ false = grind (arith, nat_tests, n) in rw e refl

read_domain : (x : Domain) (rest : List ℕ) → Always x → Stops letter_h rest → domain_at (domain_text x ++ rest) ≡ Some (x, rest)
unfolding domain_at
read_domain Heal rest ok n = refl
read_domain Work rest ok n = second_of _ _ _ (no_heal rest n) refl

domain-again : Again domain_at domain_text Always (Stops letter_h)
domain-again = record { read = read_domain }

object_no_h : (p : Plan) (g : Gfid) (rest : List ℕ) → Stops letter_h (object_text p g ++ rest)
object_no_h p g rest = step (is_opening p g.0)
  where
    step : (b : Bool) → Stops letter_h (cond b (codes "f" ++ decimal (g.0 - 2 ^ 64)) (codes "g" ++ decimal g.0) ++ rest)
    step true = refl
    step false = refl

span_stops : (p : Plan) (x : Span) (rest : List ℕ) → Stops digit (span_text p x ++ rest)
span_stops p span.Meta rest = refl
span_stops p (span.Range from to) rest = refl
span_stops p span.AllNames rest = refl
span_stops p (span.OfName name) rest = refl

abbrev pub covered_text : Plan → List ℕ → (Domain × Gfid) × Span → List ℕ
covered_text p w x = w ++ domain_text x.0.0 ++ object_text p x.0.1 ++ span_text p x.1

abbrev pub IsCovered : Plan → (Domain × Gfid) × Span → Type 0
IsCovered p x = (Always x.0.0 × IsGfid x.0.1) × IsSpan p x.1

pub covered-takes : (p : Plan) (w : List ℕ) → Takes (covered_at p w) (covered_text p w) (IsCovered p)
unfolding covered_at
covered-takes p w = both-takes _ _ _ _ _ _ (both-takes _ _ _ _ _ _ (word_then-takes w _ _ _ domain-takes) (object-takes p)) (span-takes p)

pub covered-again : (p : Plan) (w : List ℕ) → p.files < 2 ^ 32 → Again (covered_at p w) (covered_text p w) (IsCovered p) (Stops name_byte)
unfolding covered_at
covered-again p w few = both-again _ _ _ _ _ _ (Stops digit) (Stops name_byte)
    (both-again _ _ _ _ _ _ (Stops letter_h) (Stops digit) (word_then-again w _ _ _ _ domain-again) (object-again p few) (λ g rest ok n. object_no_h p g rest))
    (span-again p) (λ x rest ok n. span_stops p x rest)
