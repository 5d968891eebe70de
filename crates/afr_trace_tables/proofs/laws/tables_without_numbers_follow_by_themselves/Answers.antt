use Rattle.afr_trace_tables.proofs.PlainLaws.{now_bare, past_bare}
use Rattle.afr_trace_tables.proofs.laws.tables_without_numbers_follow_by_themselves.Goals as goal

pub returns : goal.returns
returns c = record { now = now_bare; past = past_bare }
