mod GrowLemmas
mod StreamLemmas
mod CountLemmas
mod PastLemmas
mod ReplayLemmas
mod BoundLemmas
mod UserLemmas
mod ShownLemmas
