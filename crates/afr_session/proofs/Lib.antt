mod EpochLemmas
mod StopLemmas
