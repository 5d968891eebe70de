-- The entry that was added shows the line of the request, and names no kept line.
use Rattle.std.proofs.Common.{◌∙◌, ap, arith, ◌++◌, ◌∷◌, []}
use Rattle.afr_log.specs.Entries.{lines_in}
use Rattle.afr_log.proofs.packing.pack_change.Goals as goal

pub returns-in_ok-id_of-in-Pre-clause-lines : goal.returns-in_ok-id_of-in-Pre-clause-lines
returns-in_ok-id_of-in-Pre-clause-lines c some kept = c.put.ensures.lines kept ∙ ap (λ l. lines_in kept c.args.packed.now.items ++ l ∷ []) (grind (arith, c.in-Pre.is, c.in_ok-id_of-in-Pre.ensures))

pub returns-in_ok-id_of-in-Pre-clause-there : goal.returns-in_ok-id_of-in-Pre-clause-there
returns-in_ok-id_of-in-Pre-clause-there c some count all = c.put.ensures.there count tt all

pub returns-in-Apply-clause-lines : goal.returns-in-Apply-clause-lines
returns-in-Apply-clause-lines c some kept = c.put-in-Apply.ensures.lines kept ∙ ap (λ l. lines_in kept c.args.packed.now.items ++ l ∷ []) (grind (arith, c.in-Apply.is))

pub returns-in-Apply-clause-there : goal.returns-in-Apply-clause-there
returns-in-Apply-clause-there c some count all = c.put-in-Apply.ensures.there count tt all

pub returns-in_ok-id_of-in-Post-clause-lines : goal.returns-in_ok-id_of-in-Post-clause-lines
returns-in_ok-id_of-in-Post-clause-lines c some kept = c.put-in-Post.ensures.lines kept ∙ ap (λ l. lines_in kept c.args.packed.now.items ++ l ∷ []) (grind (arith, c.in-Post.is, c.in_ok-id_of-in-Post.ensures))

pub returns-in_ok-id_of-in-Post-clause-there : goal.returns-in_ok-id_of-in-Post-clause-there
returns-in_ok-id_of-in-Post-clause-there c some count all = c.put-in-Post.ensures.there count tt all
