mod ColonLemmas
