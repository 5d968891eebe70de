-- The code's paths, as the definitions have them.
use Rattle.std.specs.Prelude.{ℕ}
use Rattle.afr_model.specs.Showing.{Path, At, NoName, Untold}
use Rattle.afr_trace_follow.specs.declared.path.Path as code_paths
use Rattle.afr_trace_follow.specs.declared.path.Path.TheVariants as code_path

-- the path that the code means
abbrev pub path_seen : code_paths.Path → Path
path_seen (code_path.At read object) = At read object
path_seen code_path.NoName = NoName
path_seen code_path.Untold = Untold

-- how many names a path has read
abbrev pub names_read : Path → ℕ
names_read (At read object) = read
names_read other = 0
