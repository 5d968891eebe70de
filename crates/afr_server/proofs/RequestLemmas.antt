-- What a request does to locks: one kind takes a lock, one releases it, all others leave them alone.
use Rattle.std.proofs.Common.{◌≡◌, ℕ, Bool, false, List, [], refl, Option, None}
use Rattle.afr_base.specs.declared.ids.ActorId.{ActorId}
use Rattle.afr_base.specs.declared.ids.BrickId.{BrickId}
use Rattle.afr_lines.specs.declared.answer.Told.{Told}
use Rattle.afr_lines.specs.declared.line.Line.{Line}
use Rattle.afr_lines.specs.declared.line.Line.TheVariants.{Ask}
use Rattle.afr_lines.specs.declared.request.Area.{Area}
use Rattle.afr_lines.specs.declared.request.Request.{Request}
use Rattle.afr_lines.specs.declared.request.Request.TheVariants.{Lock, Unlock, Look, ReadBytes, ReadName, ReadAttr, ReadAttrs, Index, Pre, Apply, Post, Mend, Settle}
use Rattle.afr_lines.specs.declared.request.Request.TheVariants as request
use Rattle.afr_model.specs.Honest.{in_the_way}
use Rattle.afr_model.specs.Locks.{granted_by_line, releases}
use Rattle.afr_name_locks.specs.declared.names.DirName.{DirName}
use Rattle.afr_lines.specs.declared.lock.Domain.{Domain}
use Rattle.afr_lines.specs.declared.lock.HeldLock.{HeldLock}
use Rattle.afr_range_locks.specs.declared.ranges.ObjectRange.{ObjectRange}
use Rattle.afr_server.specs.Carried.{names_after, ranges_after}
use Rattle.afr_server.specs.Serving.{way_in}

-- the request neither takes nor releases a lock, and nobody is in its way
pub record LeavesLocks (r : Request) : Type 0 where
  pub releases : (a : ActorId) (b : BrickId) (told : Told) (took : Bool) (y : ℕ) (lock : HeldLock Area) → releases (Ask a b r told took) y lock ≡ false
  pub grants : (a : ActorId) (b : BrickId) (told : Told) (took : Bool) (y : ℕ) → granted_by_line y (Ask a b r told took) ≡ []
  pub ranges : (a : ActorId) (way : Option ActorId) (held : List (HeldLock ObjectRange)) → ranges_after a r way held ≡ held
  pub names : (a : ActorId) (way : Option ActorId) (held : List (HeldLock DirName)) → names_after a r way held ≡ held
  pub free : (a : ActorId) (ranges : List (HeldLock ObjectRange)) (names : List (HeldLock DirName)) → way_in a r ranges names ≡ None
  pub unseen : (a : ActorId) (b : ℕ) (log : List Line) → in_the_way a r b log ≡ None

-- what holds of each request that takes a lock, of each that releases one, and of each other, holds of all
pub by_locks : (P : Request → Type 0) → ((d : Domain) (area : Area) → P (Lock d area)) → ((d : Domain) (area : Area) → P (Unlock d area)) → ((r : Request) → LeavesLocks r → P r) → (r : Request) → P r
by_locks P takes frees leaves (Lock d area) = takes d area
by_locks P takes frees leaves (Unlock d area) = frees d area
by_locks P takes frees leaves (Look g) = leaves (Look g) (record { releases = λ a b told took y lock. refl; grants = λ a b told took y. refl; ranges = λ a way held. refl; names = λ a way held. refl; free = λ a ranges names. refl; unseen = λ a b log. refl })
by_locks P takes frees leaves (ReadBytes g at len) = leaves (ReadBytes g at len) (record { releases = λ a b told took y lock. refl; grants = λ a b told took y. refl; ranges = λ a way held. refl; names = λ a way held. refl; free = λ a ranges names. refl; unseen = λ a b log. refl })
by_locks P takes frees leaves (ReadName g n) = leaves (ReadName g n) (record { releases = λ a b told took y lock. refl; grants = λ a b told took y. refl; ranges = λ a way held. refl; names = λ a way held. refl; free = λ a ranges names. refl; unseen = λ a b log. refl })
by_locks P takes frees leaves (request.List g) = leaves (request.List g) (record { releases = λ a b told took y lock. refl; grants = λ a b told took y. refl; ranges = λ a way held. refl; names = λ a way held. refl; free = λ a ranges names. refl; unseen = λ a b log. refl })
by_locks P takes frees leaves (ReadAttr g k) = leaves (ReadAttr g k) (record { releases = λ a b told took y lock. refl; grants = λ a b told took y. refl; ranges = λ a way held. refl; names = λ a way held. refl; free = λ a ranges names. refl; unseen = λ a b log. refl })
by_locks P takes frees leaves (ReadAttrs g) = leaves (ReadAttrs g) (record { releases = λ a b told took y lock. refl; grants = λ a b told took y. refl; ranges = λ a way held. refl; names = λ a way held. refl; free = λ a ranges names. refl; unseen = λ a b log. refl })
by_locks P takes frees leaves Index = leaves Index (record { releases = λ a b told took y lock. refl; grants = λ a b told took y. refl; ranges = λ a way held. refl; names = λ a way held. refl; free = λ a ranges names. refl; unseen = λ a b log. refl })
by_locks P takes frees leaves (Pre g k) = leaves (Pre g k) (record { releases = λ a b told took y lock. refl; grants = λ a b told took y. refl; ranges = λ a way held. refl; names = λ a way held. refl; free = λ a ranges names. refl; unseen = λ a b log. refl })
by_locks P takes frees leaves (Apply n) = leaves (Apply n) (record { releases = λ a b told took y lock. refl; grants = λ a b told took y. refl; ranges = λ a way held. refl; names = λ a way held. refl; free = λ a ranges names. refl; unseen = λ a b log. refl })
by_locks P takes frees leaves (Post n g k m) = leaves (Post n g k m) (record { releases = λ a b told took y lock. refl; grants = λ a b told took y. refl; ranges = λ a way held. refl; names = λ a way held. refl; free = λ a ranges names. refl; unseen = λ a b log. refl })
by_locks P takes frees leaves (Mend rep) = leaves (Mend rep) (record { releases = λ a b told took y lock. refl; grants = λ a b told took y. refl; ranges = λ a way held. refl; names = λ a way held. refl; free = λ a ranges names. refl; unseen = λ a b log. refl })
by_locks P takes frees leaves (Settle g k less) = leaves (Settle g k less) (record { releases = λ a b told took y lock. refl; grants = λ a b told took y. refl; ranges = λ a way held. refl; names = λ a way held. refl; free = λ a ranges names. refl; unseen = λ a b log. refl })
