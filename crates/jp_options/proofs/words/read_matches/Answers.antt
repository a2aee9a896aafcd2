-- Each option is what its argument was given.
use Rattle.jp_options.proofs.words.read_matches.Goals as goal

pub returns : goal.returns
returns c = record {
  words = c.in_ok-values.ensures;
  queries = c.in_ok-values-2.ensures;
  conditions = c.in_ok-values-3.ensures;
  each = c.in_ok-values-4.ensures;
  lists = c.in_ok-values-5.ensures;
  other_lists = c.in_ok-values-6.ensures;
  most = c.requires.most;
  inverted = c.is_given.ensures;
  refused = c.is_given-2.ensures;
  only_matching = c.is_given-3.ensures;
  paths = c.is_given-4.ensures;
  raw = c.is_given-5.ensures;
  canonical = c.is_given-6.ensures;
  tabs = c.is_given-7.ensures;
  commas = c.is_given-8.ensures;
  header = c.is_given-9.ensures;
  names = c.in_ok-read_names.ensures;
  colour = c.requires.colour;
  tally = c.is_given-10.ensures;
  survey = c.is_given-11.ensures;
  fold = c.requires.fold;
  after = c.requires.after;
  before = c.requires.before;
  around = c.requires.around;
  numbered = c.is_given-12.ensures;
  counted = c.is_given-13.ensures;
  quiet = c.is_given-14.ensures;
  with_matches = c.is_given-15.ensures;
  without_matches = c.is_given-16.ensures;
  named = c.is_given-17.ensures;
  unnamed = c.is_given-18.ensures;
  null = c.is_given-19.ensures;
  silent = c.is_given-20.ensures;
  checks = c.is_given-21.ensures;
  texts = c.is_given-22.ensures;
  elements = c.is_given-23.ensures;
  sequence = c.is_given-24.ensures;
}
