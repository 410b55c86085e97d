mod GapsFromEdge
mod FitCounts
mod TileParts
mod SortedPlaces
mod AppendedText
mod CacheTiles
mod PartWalkSteps
mod MapPieces
