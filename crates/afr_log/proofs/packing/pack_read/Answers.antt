-- The entry that was added shows the line of the request, and names no kept line.
use Rattle.std.proofs.Common.{◌∙◌, ap, arith, ◌++◌, ◌∷◌, []}
use Rattle.afr_log.specs.Entries.{lines_in}
use Rattle.afr_log.proofs.packing.pack_read.Goals as goal

pub returns-in_ok-id_of-in-Look-clause-lines : goal.returns-in_ok-id_of-in-Look-clause-lines
returns-in_ok-id_of-in-Look-clause-lines c some kept = c.put.ensures.lines kept ∙ ap (λ l. lines_in kept c.args.packed.now.items ++ l ∷ []) (grind (arith, c.in-Look.is, c.in_ok-id_of-in-Look.ensures))

pub returns-in_ok-id_of-in-Look-clause-there : goal.returns-in_ok-id_of-in-Look-clause-there
returns-in_ok-id_of-in-Look-clause-there c some count all = c.put.ensures.there count tt all

pub returns-in_ok-id_of-in-ReadBytes-clause-lines : goal.returns-in_ok-id_of-in-ReadBytes-clause-lines
returns-in_ok-id_of-in-ReadBytes-clause-lines c some kept = c.put-in-ReadBytes.ensures.lines kept ∙ ap (λ l. lines_in kept c.args.packed.now.items ++ l ∷ []) (grind (arith, c.in-ReadBytes.is, c.in_ok-id_of-in-ReadBytes.ensures))

pub returns-in_ok-id_of-in-ReadBytes-clause-there : goal.returns-in_ok-id_of-in-ReadBytes-clause-there
returns-in_ok-id_of-in-ReadBytes-clause-there c some count all = c.put-in-ReadBytes.ensures.there count tt all

pub returns-in_ok-id_of-in-List-clause-lines : goal.returns-in_ok-id_of-in-List-clause-lines
returns-in_ok-id_of-in-List-clause-lines c some kept = c.put-in-List.ensures.lines kept ∙ ap (λ l. lines_in kept c.args.packed.now.items ++ l ∷ []) (grind (arith, c.in-List.is, c.in_ok-id_of-in-List.ensures))

pub returns-in_ok-id_of-in-List-clause-there : goal.returns-in_ok-id_of-in-List-clause-there
returns-in_ok-id_of-in-List-clause-there c some count all = c.put-in-List.ensures.there count tt all

pub returns-in-Index-clause-lines : goal.returns-in-Index-clause-lines
returns-in-Index-clause-lines c some kept = c.put-in-Index.ensures.lines kept ∙ ap (λ l. lines_in kept c.args.packed.now.items ++ l ∷ []) (grind (arith, c.in-Index.is))

pub returns-in-Index-clause-there : goal.returns-in-Index-clause-there
returns-in-Index-clause-there c some count all = c.put-in-Index.ensures.there count tt all
