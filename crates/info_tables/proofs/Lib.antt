mod ToldGraphs
mod GraphLayout
mod NumberPlaces
mod TableValues
mod ValueRuns
