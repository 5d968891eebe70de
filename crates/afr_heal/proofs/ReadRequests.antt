-- Which requests of a heal read contents.
use Rattle.std.proofs.Common.{Bool, true, false}
use Rattle.afr_lines.specs.declared.request.Request.{Request}
use Rattle.afr_lines.specs.declared.request.Request.TheVariants.{ReadBytes, List, ReadAttrs}

-- a read of the contents
abbrev pub is_read : Request → Bool
is_read (ReadBytes g at len) = true
is_read (ReadAttrs g) = true
is_read (List g) = true
is_read request = false
