mod Firsts
mod WordLemmas
