mod WindowFacts
