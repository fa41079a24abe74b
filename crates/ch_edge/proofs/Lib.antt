mod NewLinks
