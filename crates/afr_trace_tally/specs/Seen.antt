-- The code's places in works, as the definitions have them.
use Rattle.afr_lines.specs.Places.{Place, Fresh, Indexed, Between, Within}
use Rattle.afr_trace_tally.specs.declared.sessions.Place as code_places
use Rattle.afr_trace_tally.specs.declared.sessions.Place.TheVariants as code_place

-- the place that the code means
abbrev pub place_seen : code_places.Place → Place
place_seen code_place.Fresh = Fresh
place_seen code_place.Indexed = Indexed
place_seen code_place.Between = Between
place_seen code_place.Within = Within
