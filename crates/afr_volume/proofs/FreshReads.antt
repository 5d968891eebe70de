-- Each read is fresh: it is one that its looks let, as its command's lines show.
use Rattle.std.proofs.Common.{◌≡◌, Bool, true, List, [], ◌∷◌, arith}
use Rattle.std.proofs.lemmas.Bool.Decides.{nat_tests}
use Rattle.std.specs.Prelude.{nat_le}
use Rattle.afr_base.specs.declared.ids.ActorId.{ActorId}
use Rattle.afr_base.specs.declared.ids.BrickId.{BrickId}
use Rattle.afr_law.proofs.Model.Fresh.{let_of as let_by_command}
use Rattle.afr_law.specs.ModelFresh.{IsFreshByLooks, IsLetRead}
use Rattle.afr_lines.specs.Log.{EachLine}
use Rattle.afr_lines.specs.declared.answer.Told.{Told}
use Rattle.afr_lines.specs.declared.answer.Told.TheVariants.{Done, Failed, Given, Granted, Held, NoObject, NotConnected, Seen}
use Rattle.afr_lines.specs.declared.line.Line.{Line}
use Rattle.afr_lines.specs.declared.line.Line.TheVariants as line_of
use Rattle.afr_lines.specs.declared.line.Line.TheVariants.{Ask}
use Rattle.afr_lines.specs.declared.request.Request.{Request}
use Rattle.afr_model.specs.Following.{Follows, IsFollowing, KeepsToTask, ToCommand, ToCrawl, ToItem, ToRound}
use Rattle.afr_model.specs.Replied.{IsReplied, Replied}
use Rattle.afr_model.specs.Safe.{AreFresh, IsFresh}
use Rattle.afr_plan.specs.declared.plan.Plan.{Plan}

-- a client's line is of its command
let_of : (crawl : Bool) (p : Plan) (a : ActorId) (b : BrickId) (asked : Request) (told : Told) (took : Bool) (older : List Line) → nat_le a.0 16 ≡ true → KeepsToTask crawl p a.0 (Ask a b asked told took) older → IsReplied p (Ask a b asked told took) older
    → IsLetRead p (Ask a b asked told took) older
let_of crawl p a b asked told took older client (ToCommand c present keeps) k = let_by_command p a b asked told took older c (k.command c present)
let_of crawl p a b asked told took older client (ToRound plain low brick present keeps) k = absurd (grind (arith, nat_tests, client, low))
let_of crawl p a b asked told took older client (ToCrawl crawls first brick present keeps) k = absurd (grind (arith, nat_tests, client, first))
let_of crawl p a b asked told took older client (ToItem crawls low item given keeps) k = absurd (grind (arith, nat_tests, client, low))

fresh_line : (crawl : Bool) (p : Plan) (line : Line) (older : List Line) → IsFollowing crawl p line older → IsReplied p line older → IsFreshByLooks p line older → IsFresh p line older
fresh_line crawl p (Ask a b asked Given took) older f r k = λ client. k (let_of crawl p a b asked Given took older client f.1.0.keeps r) client
fresh_line crawl p (Ask a b asked Granted took) older f r k = tt
fresh_line crawl p (Ask a b asked (Held owner) took) older f r k = tt
fresh_line crawl p (Ask a b asked (Seen view) took) older f r k = tt
fresh_line crawl p (Ask a b asked Done took) older f r k = tt
fresh_line crawl p (Ask a b asked NoObject took) older f r k = tt
fresh_line crawl p (Ask a b asked NotConnected took) older f r k = tt
fresh_line crawl p (Ask a b asked Failed took) older f r k = tt
fresh_line crawl p (line_of.Begin a change) older f r k = tt
fresh_line crawl p (line_of.HealBegin a g kind) older f r k = tt
fresh_line crawl p (line_of.End a said) older f r k = tt
fresh_line crawl p (line_of.HealEnd a g kind said) older f r k = tt
fresh_line crawl p (line_of.Event event) older f r k = tt

pub all_fresh : (crawl : Bool) (p : Plan) (log : List Line) → Follows crawl p log → Replied p log → EachLine (IsFreshByLooks p) log → AreFresh p log
all_fresh crawl p [] f r k = tt
all_fresh crawl p (line ∷ older) f r k = (fresh_line crawl p line older f.0 r.0 k.0, all_fresh crawl p older f.1 r.1 k.1)
