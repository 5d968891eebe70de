-- Bytes that end too early or go on too long have their fault, and others their parts.
use Rattle.std.proofs.Common.{◌≡◌, ℕ, ◌+◌, ◌-◌, ◌*◌, ◌<◌, Some, drop, take, length, ◌∙◌, ap, arith}
use Rattle.std.proofs.lemmas.List.{take_rest}
use Rattle.afr_image.specs.Frame.{end_of, number_at, refusal, step_count, steps_at, text_len}
use Rattle.afr_image.proofs.FrameLemmas.{cut_parts, is_framed, short_fault, tail_fault}
use Rattle.afr_image.proofs.frame.cut.Goals as goal

pub returns-then-bytes-lt-TEXT_AT-clause-err : goal.returns-then-bytes-lt-TEXT_AT-clause-err
returns-then-bytes-lt-TEXT_AT-clause-err c = short_fault c.args.bytes.now c.requires.magic (omega arith)

pub returns-then-bytes-count_at-clause-err : goal.returns-then-bytes-count_at-clause-err
returns-then-bytes-count_at-clause-err c = short_fault c.args.bytes.now c.requires.magic (omega arith)

pub returns-then-bytes-end-clause-err : goal.returns-then-bytes-end-clause-err
returns-then-bytes-end-clause-err c =
    let count : c.number_at-count.result ≡ step_count c.args.bytes.now = c.number_at-count.ensures ∙ ap (λ (n : ℕ). number_at (12 + n) c.args.bytes.now) c.number_at-text_len.ensures in
    short_fault c.args.bytes.now c.requires.magic (omega arith)

pub returns-then-end-bytes-clause-err : goal.returns-then-end-bytes-clause-err
returns-then-end-bytes-clause-err c =
    let count : c.number_at-count.result ≡ step_count c.args.bytes.now = c.number_at-count.ensures ∙ ap (λ (n : ℕ). number_at (12 + n) c.args.bytes.now) c.number_at-text_len.ensures in
    let at : end_of c.args.bytes.now ≡ 12 + c.number_at-text_len.result + 4 + 3 * c.number_at-count.result = omega arith in
    let past : end_of c.args.bytes.now < length c.args.bytes.now = omega arith in
    tail_fault c.args.bytes.now c.requires.magic past ∙ ap (λ (n : ℕ). Some (refusal n 15)) at

pub returns-clause-ok : goal.returns-clause-ok
returns-clause-ok c =
    let count : c.number_at-count.result ≡ step_count c.args.bytes.now = c.number_at-count.ensures ∙ ap (λ (n : ℕ). number_at (12 + n) c.args.bytes.now) c.number_at-text_len.ensures in
    let ends : length c.args.bytes.now ≡ end_of c.args.bytes.now = omega arith in
    let text : 12 + c.number_at-text_len.result - 12 ≡ text_len c.args.bytes.now = omega arith in
    let first : 12 + c.number_at-text_len.result + 4 ≡ steps_at c.args.bytes.now = omega arith in
    cut_parts c.args.bytes.now _ c.number_at-count.result _ (is_framed c.args.bytes.now c.requires.magic ends)
    (ap (λ (n : ℕ). take n (drop 12 c.args.bytes.now)) text) count
    (take_rest c.args.bytes.now (12 + c.number_at-text_len.result + 4) ∙ ap (λ (n : ℕ). drop n c.args.bytes.now) first)
