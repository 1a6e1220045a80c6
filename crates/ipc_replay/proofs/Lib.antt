mod HangUpLemmas
