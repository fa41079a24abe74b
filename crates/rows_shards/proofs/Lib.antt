mod NullText
