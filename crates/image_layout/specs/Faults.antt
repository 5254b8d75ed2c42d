-- What is wrong with three numbers that should be a shape: the first of them that is out of range.
use Rattle.std.specs.Prelude.{ℕ, ◌<◌, ◌≤◌, ◌⊎◌, List, codes}
use Rattle.image_layout.specs.Places.{most_segments, most_depth, most_kind}
use Rattle.image_layout.specs.declared.shape.GeoFault.{GeoFault}
use Rattle.image_layout.specs.declared.shape.GeoFault.TheVariants.{Segments, Depth, Kind}

-- a number of slots for segments that an image may have
abbrev pub IsSegments : ℕ → Type 0
IsSegments segments = (1 ≤ segments) × (segments ≤ most_segments)

-- the three numbers have this fault: the number that it names is out of range, and those before it are not
abbrev pub HasGeoFault : ℕ → ℕ → ℕ → GeoFault → Type 0
HasGeoFault segments depth kind Segments = (segments < 1) ⊎ (most_segments < segments)
HasGeoFault segments depth kind Depth = IsSegments segments × (most_depth < depth)
HasGeoFault segments depth kind Kind = IsSegments segments × (depth ≤ most_depth) × (most_kind < kind)

-- what a fault says of itself
abbrev pub fault_text : GeoFault → List ℕ
fault_text Segments = codes "the number of segments is not 1 to 16384"
fault_text Depth = codes "the greatest depth is not 0 to 16"
fault_text Kind = codes "the kind of hash is not 0 or 1"
