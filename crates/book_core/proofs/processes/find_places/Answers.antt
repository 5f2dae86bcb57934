use Rattle.book_core.proofs.processes.find_places.Goals as goal

pub returns : goal.returns
returns c = λ cfg H stand. record {
  kept = c.kept_numbers.ensures.each cfg H stand;
  kept_count = c.kept_numbers.ensures.count;
  news = c.new_numbers.ensures.each cfg H stand;
  news_count = c.new_numbers.ensures.count;
}
