mod LinesLemmas
mod RunnableLemmas
