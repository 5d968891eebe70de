-- What is answered is the image of the bytes or their fault, and nothing else is.
use Rattle.std.proofs.Common.{arith}
use Rattle.afr_image.proofs.ReadLemmas.{answers_again, answers_exact, answers_read, answers_refused}
use Rattle.afr_image.proofs.read.read_within.Goals as goal

pub returns-clause-read : goal.returns-clause-read
returns-clause-read c = answers_read c.args.most c.args.bytes.now c.answer_of.result (λ i. omega (arith, c.type_inv.bytes i)) c.requires c.answer_of.ensures

pub returns-clause-again : goal.returns-clause-again
returns-clause-again c = λ image h. answers_again c.one_plan_for_a_text.ensures.same c.args.most c.args.bytes.now c.answer_of.result image c.answer_of.ensures h

pub returns-clause-refused : goal.returns-clause-refused
returns-clause-refused c = λ fault e. answers_refused c.args.most c.args.bytes.now c.answer_of.result fault c.answer_of.ensures e

pub returns-clause-exact : goal.returns-clause-exact
returns-clause-exact c = λ fault h. answers_exact c.one_plan_for_a_text.ensures.same c.args.most c.args.bytes.now c.answer_of.result fault c.answer_of.ensures h
