-- `questions::along` meets its contract.
use mathlib.Core.Path.{◌∙◌}
use Rattle.questions.proofs.Going.{uri-found, prefix-found, in-scope-uri-found, in-scope-prefix-found}
use Rattle.questions.proofs.along.Goals as goal

pub returns-in-UriOfPrefix : goal.returns-in-UriOfPrefix
returns-in-UriOfPrefix c = λ pool meant. c.uri_of_prefix.ensures pool meant ∙ uri-found _ _ _ _ c.in-UriOfPrefix.is

pub returns-in-PrefixOfUri : goal.returns-in-PrefixOfUri
returns-in-PrefixOfUri c = λ pool meant. c.prefix_of_uri.ensures pool meant ∙ prefix-found _ _ _ _ c.in-PrefixOfUri.is

pub returns-in-InScopeUri : goal.returns-in-InScopeUri
returns-in-InScopeUri c =
    λ pool meant. c.in_scope_uri.ensures pool meant ∙ in-scope-uri-found _ _ _ _ c.requires.start c.in-InScopeUri.is

pub returns-in-InScopePrefix : goal.returns-in-InScopePrefix
returns-in-InScopePrefix c =
    λ pool meant. c.in_scope_prefix.ensures pool meant ∙ in-scope-prefix-found _ _ _ _ c.requires.start c.in-InScopePrefix.is
